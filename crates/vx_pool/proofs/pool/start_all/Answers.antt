use Rattle.std.proofs.Common.{◌<◌, subst, sym, arith, length}
use Rattle.std.proofs.lemmas.Option.{slice_get_within}
use Rattle.vx_pool.specs.Lanes.{StandsAt}
use Rattle.vx_pool.proofs.Amid.{amid_on, amid_stopped, stopped_on, behind_set, driven_more}
use Rattle.vx_pool.proofs.pool.start_all.Goals as goal

pub start_at-requires-clause-free : goal.start_at-requires-clause-free
start_at-requires-clause-free g c =
    let w = g.W.Worker in
    let t = g.T.Talker in
    λ l at. subst (λ state. StandsAt w.log w.asked w.ended w.Fits w.lane t.lane t.Held t.Tells t.Asks state c.args.shared.now c.loop-i.hub l.0 l.1) (c.loop-i.invariant.behind c.loop-i.i (omega arith)) (c.loop-i.invariant.amid.standing c.loop-i.i l at)

pub returns-in_err-waits-clause-stopped : goal.returns-in_err-waits-clause-stopped
returns-in_err-waits-clause-stopped g c =
    let w = g.W.Worker in
    let t = g.T.Talker in
    stopped_on w.log w.asked w.ended w.Fits w.lane t.lane t.Held t.Tells t.Asks t.Later g.met.T.Talker.later_on c.args.shared.now c.args.lanes.now c.args.hub.now c.loop-i.states c.loop-i.hub c.loop-i.lanes c.loop-i.i c.start_at.new.lanes c.start_at.new.hub
    c.loop-i.invariant.amid c.start_at.ensures.lanes.0

pub loop-i-preserved : goal.loop-i-preserved
loop-i-preserved g c =
    let w = g.W.Worker in
    let t = g.T.Talker in
    let changed = c.in_ok-waits.ensures.lanes in
    let within : c.loop-i.i < length c.loop-i.states = subst (λ n. c.loop-i.i < n) (sym c.loop-i.invariant.amid.each) (slice_get_within c.loop-i.lanes c.loop-i.i changed.0.before changed.0.found) in
    record {
      amid = amid_on w.log w.asked w.ended w.Fits w.lane t.lane t.Held t.Tells t.Asks t.Later g.met.T.Talker.later_on c.args.shared.now c.args.lanes.now c.args.hub.now c.loop-i.states c.loop-i.hub c.loop-i.lanes c.loop-i.i c.start_at.new.lanes c.start_at.new.hub
          c.in_ok-waits.waits c.loop-i.invariant.amid changed.0 changed.2;
      behind = behind_set c.loop-i.states c.loop-i.i c.in_ok-waits.waits c.loop-i.invariant.behind;
      driven = driven_more c.loop-i.states c.loop-i.i c.in_ok-waits.waits within c.loop-i.invariant.driven;
    }

pub returns-clause-stopped : goal.returns-clause-stopped
returns-clause-stopped g c =
    let w = g.W.Worker in
    let t = g.T.Talker in
    amid_stopped w.log w.asked w.ended w.Fits w.lane t.lane t.Held t.Tells t.Asks t.Later c.args.shared.now c.args.lanes.now c.args.hub.now c.loop-i.states c.loop-i.hub c.loop-i.lanes c.loop-i.invariant.amid

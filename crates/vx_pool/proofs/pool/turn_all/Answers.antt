use Rattle.std.proofs.Common.{◌<◌, ◌≡◌, subst, sym, ap, arith, length, slice_set, ◌∙◌}
use Rattle.vx_pool.specs.Lanes.{StandsAt}
use Rattle.vx_pool.specs.Counts.{total}
use Rattle.vx_pool.proofs.Counting.{total_less}
use Rattle.vx_pool.proofs.Amid.{amid_on, amid_stopped, amid_done, stopped_on, driven_set, length_set}
use Rattle.vx_pool.proofs.pool.turn_all.Goals as goal

pub returns-then-waiting-eq0-clause-done : goal.returns-then-waiting-eq0-clause-done
returns-then-waiting-eq0-clause-done g c =
    let w = g.W.Worker in
    let t = g.T.Talker in
    amid_done w.log w.asked w.ended w.Fits w.lane t.lane t.Held t.Tells t.Asks t.Later c.args.shared.now c.turns.hub c.turns.states c.turns.lanes c.turns.invariant.amid.standing c.turns.invariant.driven (omega arith)

pub returns-then-waiting-eq0-clause-stopped : goal.returns-then-waiting-eq0-clause-stopped
returns-then-waiting-eq0-clause-stopped g c =
    let w = g.W.Worker in
    let t = g.T.Talker in
    amid_stopped w.log w.asked w.ended w.Fits w.lane t.lane t.Held t.Tells t.Asks t.Later c.args.shared.now c.args.lanes.now c.args.hub.now c.turns.states c.turns.hub c.turns.lanes c.turns.invariant.amid

pub turn_at-requires-clause-waits : goal.turn_at-requires-clause-waits
turn_at-requires-clause-waits g c =
    let w = g.W.Worker in
    let t = g.T.Talker in
    λ l at. subst (λ state. StandsAt w.log w.asked w.ended w.Fits w.lane t.lane t.Held t.Tells t.Asks state c.args.shared.now c.turns.hub l.0 l.1) c.choose-i.ensures.waits (c.turns.invariant.amid.standing c.choose-i.result l at)

pub returns-in_err-waits-clause-stopped : goal.returns-in_err-waits-clause-stopped
returns-in_err-waits-clause-stopped g c =
    let w = g.W.Worker in
    let t = g.T.Talker in
    stopped_on w.log w.asked w.ended w.Fits w.lane t.lane t.Held t.Tells t.Asks t.Later g.met.T.Talker.later_on c.args.shared.now c.args.lanes.now c.args.hub.now c.turns.states c.turns.hub c.turns.lanes c.choose-i.result c.turn_at.new.lanes c.turn_at.new.hub
    c.turns.invariant.amid c.turn_at.ensures.lanes.0

pub turns-smaller : goal.turns-smaller
turns-smaller g c =
    let changed = c.in_ok-waits.ensures.lanes in
    subst (λ ls. total (λ a. g.W.Worker.left a.0) ls < total (λ a. g.W.Worker.left a.0) c.turns.lanes) {x = slice_set c.turns.lanes c.choose-i.result changed.0.after} (sym changed.0.set)
    (total_less (λ a. g.W.Worker.left a.0) c.turns.lanes c.choose-i.result changed.0.before changed.0.after changed.0.found changed.1)

pub turns-preserved : goal.turns-preserved
turns-preserved g c =
    let w = g.W.Worker in
    let t = g.T.Talker in
    let changed = c.in_ok-waits.ensures.lanes in
    let i = c.choose-i.result in
    let same : length c.turn_at.new.lanes ≡ length c.turns.lanes = ap length changed.0.set ∙ length_set c.turns.lanes i changed.0.after in
    record {
      amid = amid_on w.log w.asked w.ended w.Fits w.lane t.lane t.Held t.Tells t.Asks t.Later g.met.T.Talker.later_on c.args.shared.now c.args.lanes.now c.args.hub.now c.turns.states c.turns.hub c.turns.lanes i c.turn_at.new.lanes c.turn_at.new.hub
          c.in_ok-waits.waits c.turns.invariant.amid changed.0 changed.2;
      marks = c.choose-i.ensures.marks ∙ c.turns.invariant.marks ∙ sym same;
      driven = driven_set c.turns.states i (length c.turn_at.new.lanes) c.in_ok-waits.waits c.choose-i.ensures.within (λ j other near none. c.turns.invariant.driven j (subst (λ n. j < n) same near) none);
    }

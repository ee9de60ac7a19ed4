use Rattle.vx_pool.proofs.Amid.{amid_first, amid_anew, stopped_after}
use Rattle.vx_pool.proofs.pool.run_over.Goals as goal

pub start_all-requires-clause-amid : goal.start_all-requires-clause-amid
start_all-requires-clause-amid g c =
    let w = g.W.Worker in
    let t = g.T.Talker in
    amid_first w.log w.asked w.ended w.Fits w.lane t.lane t.Held t.Tells t.Asks t.Later g.met.T.Talker.later_same c.args.shared.now c.args.hub.now c.args.states.now c.args.lanes.now c.requires.apart c.requires.free c.requires.each c.requires.none

pub turn_all-requires-clause-amid : goal.turn_all-requires-clause-amid
turn_all-requires-clause-amid g c =
    let w = g.W.Worker in
    let t = g.T.Talker in
    amid_anew w.log w.asked w.ended w.Fits w.lane t.lane t.Held t.Tells t.Asks t.Later g.met.T.Talker.later_same c.args.shared.now c.args.lanes.now c.args.hub.now c.start_all.new.states c.start_all.new.hub c.start_all.new.lanes c.in_ok-start_all.ensures.amid

pub returns-clause-stopped : goal.returns-clause-stopped
returns-clause-stopped g c =
    let w = g.W.Worker in
    let t = g.T.Talker in
    stopped_after w.log w.asked w.ended w.Fits w.lane t.lane t.Held t.Tells t.Asks t.Later g.met.T.Talker.later_on c.args.lanes.now c.args.hub.now c.start_all.new.lanes c.start_all.new.hub c.turn_all.new.lanes c.turn_all.new.hub c.start_all.ensures.stopped c.turn_all.ensures.stopped

use Rattle.std.proofs.Common.{vec_len}
use Rattle.vx_verifier.specs.Outsets.{hub}
use Rattle.vx_verifier.proofs.Ending.{Ends}
use Rattle.vx_verifier.proofs.verifying.end_all.Given as goal

abbrev pub invariant-lanes : goal.invariant-lanes
invariant-lanes g l =
    let w = g.W.Spawner in
    let k = g.W.Link.Link in
    Ends k.dialogue k.steady k.faults g.K.Begun.outset (hub w.starts w.owed w.ended w.faults w.steady l.fn.spawner) (hub w.starts w.owed w.ended w.faults w.steady l.spawner) l.fn.lanes.items l.lanes.items

abbrev pub decreases-lanes : goal.decreases-lanes
decreases-lanes g l = vec_len l.lanes

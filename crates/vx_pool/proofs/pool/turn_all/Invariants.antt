use Rattle.std.proofs.Common.{◌≡◌, ℕ, ◌<◌, None, get_or, length}
use Rattle.vx_pool.specs.Lanes.{Amid}
use Rattle.vx_pool.specs.Counts.{total}
use Rattle.vx_pool.proofs.pool.turn_all.Given as goal

abbrev pub invariant-turns : goal.invariant-turns
invariant-turns g l =
    let w = g.W.Worker in
    let t = g.T.Talker in
    record {
      amid : Amid w.log w.asked w.ended w.Fits w.lane t.lane t.Held t.Tells t.Asks t.Later l.shared l.fn.lanes l.fn.hub l.states l.hub l.lanes;
      marks : length l.ready ≡ length l.lanes;
      driven : (j : ℕ) → j < length l.lanes → get_or l.states j None ≡ None → ⊥;
    }

abbrev pub decreases-turns : goal.decreases-turns
decreases-turns g l = total (λ a. g.W.Worker.left a.0) l.lanes

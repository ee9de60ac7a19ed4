use Rattle.std.proofs.Common.{◌≡◌, ℕ, ◌<◌, ◌≤◌, None, get_or}
use Rattle.vx_pool.specs.Lanes.{Amid}
use Rattle.vx_pool.proofs.pool.start_all.Given as goal

abbrev pub invariant-loop-i : goal.invariant-loop-i
invariant-loop-i g l =
    let w = g.W.Worker in
    let t = g.T.Talker in
    record {
      amid : Amid w.log w.asked w.ended w.Fits w.lane t.lane t.Held t.Tells t.Asks t.Later l.shared l.fn.lanes l.fn.hub l.states l.hub l.lanes;
      behind : (j : ℕ) → l.i ≤ j → get_or l.states j None ≡ None;
      driven : (j : ℕ) → j < l.i → get_or l.states j None ≡ None → ⊥;
    }

use Rattle.std.proofs.Common.{◌≡◌, ℕ, ◌<◌, true, Some, None, get_or, length}
use Rattle.vx_pool.proofs.pool.look.Given as goal

abbrev pub invariant-loop-i : goal.invariant-loop-i
invariant-loop-i g l = record {
  each : length l.ready ≡ length l.fn.ready;
  waits : (j : ℕ) → j < l.i → get_or l.ready j None ≡ Some true → get_or l.states j None ≡ Some true;
}

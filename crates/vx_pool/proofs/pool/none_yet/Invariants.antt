use Rattle.std.proofs.Common.{◌≡◌, ℕ, None, length, get_or}
use Rattle.vx_pool.proofs.pool.none_yet.Given as goal

abbrev pub invariant-loop : goal.invariant-loop
invariant-loop l = (length l.states.items ≡ l.counter) × ((j : ℕ) → get_or l.states.items j None ≡ None)

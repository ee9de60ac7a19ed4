use Rattle.std.proofs.Common.{◌≡◌, ◌∷◌, drop}
use Rattle.vx_run.specs.Fresh.{largest, in_store}
use Rattle.vx_run.specs.Stores.{store}
use Rattle.vx_run.proofs.fresh.with_store.Given as goal

abbrev pub invariant-loop-x : goal.invariant-loop-x
invariant-loop-x l = largest (l.most ∷ in_store (store (drop l.x-index l.variables))) ≡ largest (l.fn.most ∷ in_store (store l.fn.variables))

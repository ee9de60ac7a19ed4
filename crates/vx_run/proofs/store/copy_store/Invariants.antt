use Rattle.std.proofs.Common.{◌≡◌, ◌++◌, drop}
use Rattle.vx_run.specs.Stores.{store}
use Rattle.vx_run.proofs.store.copy_store.Given as goal

abbrev pub invariant-loop-v : goal.invariant-loop-v
invariant-loop-v l = store l.copies.items ++ store (drop l.v-index l.variables) ≡ store l.variables

use Rattle.std.proofs.Common.{◌≡◌, drop}
use Rattle.std.specs.Prelude.{string_bytes}
use Rattle.vx_meaning.specs.States.{lookup}
use Rattle.vx_run.specs.Stores.{store}
use Rattle.vx_run.proofs.store.lookup.Given as goal

abbrev pub invariant-loop-v : goal.invariant-loop-v
invariant-loop-v l = lookup (string_bytes l.name.value) (store l.variables) ≡ lookup (string_bytes l.name.value) (store (drop l.v-index l.variables))

use Rattle.std.proofs.Common.{◌≡◌, ◌+◌, drop}
use Rattle.std.specs.Prelude.{string_bytes, option_map}
use Rattle.vx_run.specs.Stores.{store}
use Rattle.vx_run.specs.Stores.{place_in}
use Rattle.vx_run.proofs.store.find.Given as goal

abbrev pub invariant-loop-k : goal.invariant-loop-k
invariant-loop-k l = place_in (string_bytes l.name.value) (store l.variables) ≡ option_map (λ n. l.k + n) (place_in (string_bytes l.name.value) (store (drop l.k l.variables)))

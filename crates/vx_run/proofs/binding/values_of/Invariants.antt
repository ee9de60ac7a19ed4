use Rattle.std.proofs.Common.{◌≡◌, map, drop}
use Rattle.vx_resolved.specs.Resolved.{declaration}
use Rattle.vx_run.specs.Views.{value}
use Rattle.vx_run.specs.Stores.{store}
use Rattle.vx_run.specs.Whole.{values_of}
use Rattle.vx_run.proofs.Bindings.{in_front}
use Rattle.vx_run.proofs.binding.values_of.Given as goal

abbrev pub invariant-loop-d : goal.invariant-loop-d
invariant-loop-d l =
    values_of (map declaration l.declarations) (store l.variables) ≡ in_front (map value l.values.items) (values_of (map declaration (drop l.d-index l.declarations)) (store l.variables))

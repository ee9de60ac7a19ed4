use Rattle.std.proofs.Common.{◌≡◌, ◌∷◌, map, drop}
use Rattle.std.specs.Prelude.{flat_map}
use Rattle.vx_run.specs.Fresh.{largest, reference}
use Rattle.vx_run.specs.Views.{value}
use Rattle.vx_run.proofs.fresh.with_values.Given as goal

abbrev pub invariant-loop-v : goal.invariant-loop-v
invariant-loop-v l = largest (l.most ∷ flat_map reference (map value (drop l.v-index l.values))) ≡ largest (l.fn.most ∷ flat_map reference (map value l.fn.values))

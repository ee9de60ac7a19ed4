use Rattle.std.proofs.Common.{◌≡◌, ◌∷◌, map, take}
use Rattle.std.specs.Prelude.{flat_map}
use Rattle.vx_run.specs.Fresh.{largest, in_heap}
use Rattle.vx_run.specs.Configs.{around}
use Rattle.vx_run.specs.Referenced.{waiting}
use Rattle.vx_run.proofs.fresh.with_heaps.Given as goal

abbrev pub invariant-loop-w : goal.invariant-loop-w
invariant-loop-w l = l.most ≡ largest (l.fn.most ∷ flat_map in_heap (map (λ o. o.0) (around (waiting (take l.w-index l.fn.of.callers.items))).olds))

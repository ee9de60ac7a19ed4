use Rattle.std.proofs.Common.{◌≡◌, ◌∷◌, take}
use Rattle.std.specs.Prelude.{flat_map}
use Rattle.vx_run.specs.Fresh.{largest, in_store}
use Rattle.vx_run.specs.Configs.{around}
use Rattle.vx_run.specs.Referenced.{waiting}
use Rattle.vx_run.proofs.fresh.with_stores.Given as goal

abbrev pub invariant-loop-w : goal.invariant-loop-w
invariant-loop-w l = l.most ≡ largest (l.fn.most ∷ flat_map in_store (around (waiting (take l.w-index l.fn.of.callers.items))).stores)

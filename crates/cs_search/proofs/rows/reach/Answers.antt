use Rattle.std.proofs.Common.{◌∙◌, ap}
use Rattle.cs_search.specs.Rows.{row}
use Rattle.cs_search.proofs.Places.{row_grown}
use Rattle.cs_search.proofs.rows.reach.Goals as goal

pub loop-alloc-preserved : goal.loop-alloc-preserved
loop-alloc-preserved c s = ap (λ rs. row rs s) c.in_ok-push.ensures.items ∙ row_grown c.loop-alloc.rows.items c.new.result c.new.ensures.items s ∙ c.loop-alloc.invariant s

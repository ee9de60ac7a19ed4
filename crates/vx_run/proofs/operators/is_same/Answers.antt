use Rattle.std.proofs.Common.{sym, ◌∙◌}
use Rattle.vx_frac.specs.Fraction.{fraction}
use Rattle.vx_run.proofs.Asked.{same_then, same_else}
use Rattle.vx_run.proofs.operators.is_same.Goals as goal

pub returns-then-is_at_most : goal.returns-then-is_at_most
returns-then-is_at_most c = c.is_at_most-then-is_at_most.ensures ∙ same_then (fraction c.args.a) (fraction c.args.b) (sym c.is_at_most.ensures ∙ c.if-is_at_most.true)

pub returns-else-is_at_most : goal.returns-else-is_at_most
returns-else-is_at_most c = c.if-is_at_most.false ∙ same_else (fraction c.args.a) (fraction c.args.b) (sym c.is_at_most.ensures ∙ c.if-is_at_most.false)

use Rattle.std.proofs.Common.{Bool, sym, ◌∙◌, ap}
use Rattle.vx_run.specs.Going.{require, Stopped}
use Rattle.vx_run.proofs.blocks.assume.Goals as goal

pub returns-then-is_true : goal.returns-then-is_true
returns-then-is_true c = λ l. ap (λ (b : Bool). require b (Stopped c.args.at) l) (sym (sym c.is_true.ensures ∙ c.if-is_true.true))

pub returns : goal.returns
returns c = λ l. ap (λ (b : Bool). require b (Stopped c.args.at) l) (sym (sym c.is_true.ensures ∙ c.if-is_true.false))

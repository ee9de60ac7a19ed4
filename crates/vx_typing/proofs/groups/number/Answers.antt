use Rattle.std.proofs.Common.{◌∙◌}
use Rattle.vx_expressions.specs.Views.{signature}
use Rattle.vx_typing.proofs.Numbers.{placed_at}
use Rattle.vx_typing.proofs.groups.number.Goals as goal

pub returns-in-Some : goal.returns-in-Some
returns-in-Some c = λ p h. c.in-Some.ensures.index ∙ placed_at signature c.args.name.now c.args.members.now.entries p h

pub returns-in-None : goal.returns-in-None
returns-in-None c = λ p h. c.in-None.ensures.index ∙ placed_at signature c.args.name.now c.args.members.now.entries p h

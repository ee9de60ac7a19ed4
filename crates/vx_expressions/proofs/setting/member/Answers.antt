use Rattle.std.proofs.Common.{◌∙◌, ap, option_map}
use Rattle.vx_expressions.specs.Views.{signature}
use Rattle.vx_expressions.proofs.Scopes.{found}
use Rattle.vx_expressions.proofs.setting.member.Goals as goal

pub returns : goal.returns
returns c = ap (option_map signature) (c.copied.ensures ∙ c.get.ensures.value) ∙ found signature c.args.name.now c.args.members.now.entries

use Rattle.std.proofs.Common.{◌≡◌, ◌∙◌, refl, Option, Some, None, option_map}
use Rattle.vx_expressions.specs.declared.setting.Variable.{Variable}
use Rattle.vx_expressions.proofs.Scopes.{found}
use Rattle.vx_expressions.proofs.setting.find.Goals as goal

same : (o : Option Variable) → o ≡ option_map (λ (v : Variable). v) o
same (Some v) = refl
same None = refl

pub returns : goal.returns
returns c = c.copied.ensures ∙ c.get.ensures.value ∙ same _ ∙ found (λ (v : Variable). v) c.args.name.now c.args.variables.now.entries

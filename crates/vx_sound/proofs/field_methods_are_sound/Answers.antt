use Rattle.vx_rules.specs.Members.{method_tree}
use Rattle.vx_sound.proofs.Passes.{cleared}
use Rattle.vx_sound.proofs.Methods.{sound}
use Rattle.vx_sound.proofs.field_methods_are_sound.Goals as goal

pub returns : goal.returns
returns c = λ p m replies typed plain passed right. sound (λ g es e. ⊥) p m typed plain (cleared (method_tree p m) replies passed right)

-- An application has one value at most.
use Rattle.std.proofs.Common.{◌≡◌, ℕ, ◌+◌, List, sym, ◌∙◌, ap, arith}
use Rattle.std.proofs.lemmas.Option.{same_Some}
use Rattle.vx_ast.specs.Syntax.{Name, Program}
use Rattle.vx_meaning.specs.Values.{Value}
use Rattle.vx_meaning.specs.States.{State}
use Rattle.vx_meaning.specs.Evaluate.{applications}
use Rattle.vx_sound.proofs.Fuel.{applications_later}
use Rattle.vx_sound_funcs.specs.Told.{IsValueOf}

module _ (p : Program) where
  pub one_application : (f : Name) (vs : List Value) (s : State) (v w : Value) → IsValueOf p f vs s v → IsValueOf p f vs s w → v ≡ w
  one_application f vs s v w a b =
      let z : b.0 + a.0 ≡ a.0 + b.0 = omega arith in
      same_Some v w (sym (applications_later p b.0 a.0 f vs s v a.1) ∙ ap (λ (k : ℕ). applications p k f vs s) z ∙ applications_later p a.0 b.0 f vs s w b.1)

-- What the law of whole runs stands on.
use Rattle.std.proofs.Common.{arith, ◌≡◌, ◌≤◌, ℕ, List}
use Rattle.vx_ast.specs.declared.ValueType.{ValueType}
use Rattle.vx_ast.specs.Syntax.{Declaration, Program, Expr, Exprs}
use Rattle.vx_meaning.specs.Values.{Value, type_of}
use Rattle.vx_meaning.specs.States as run
use Rattle.vx_meaning.specs.States.{State}
use Rattle.std.specs.Prelude.{Ok}
use Rattle.vx_meaning.specs.Fits.{Eventually, fit_by, fit_all, deeper}
use Rattle.vx_types.specs.Typing.{Scope, HasType, HaveTypes}
use Rattle.vx_types.specs.Premises.{IsTypedProgram}
use Rattle.vx_sound.proofs.Stripped.{fit_worth, all_fit_worth}
use Rattle.vx_sound_preds.proofs.TypedValues.{AreTyped, has_type, have_types, applications_typed}
use Rattle.vx_runs.specs.Law.{NoneFails}
use Rattle.vx_runs.proofs.Followed.{SaneKept, FitsRise, TakesRise, TakenIsGiven, GivesGo}
use Rattle.vx_runs.proofs.GivenAtOnce.{GivesAtOnce}

pub record Laws (p : Program) : Type 1 where
  pub typed : IsTypedProgram p
  pub never : NoneFails p
  pub kept : SaneKept p
  pub fits : FitsRise p
  pub takes : TakesRise p
  pub given : TakenIsGiven p
  pub gives : GivesGo p
  pub rise : GivesAtOnce p

module _ (p : Program) (typed : IsTypedProgram p) where
  self : (n : ℕ) → n ≤ n
  self n = omega arith

  -- what fits has a value of its type
  pub fits_typed : (ds : Scope) (s : State) (e : Expr) (t : ValueType) (v : Value) → AreTyped ds s.store → HasType p ds e t → Eventually (λ n. fit_by p n s e ≡ Ok v) → type_of v ≡ t
  fits_typed ds s e t v k ty f = has_type p typed.functions f.0 (applications_typed p typed.functions f.0) s k ty v (fit_worth p f.0 s e v (f.1 f.0 (self f.0)))

  pub all_typed : (ds : Scope) (s : State) (es : Exprs) (fs : List Declaration) (vs : List Value) → AreTyped ds s.store → HaveTypes p ds es fs → Eventually (λ n. fit_all p (deeper p n) s es ≡ Ok vs) → run.HaveTypes fs vs
  all_typed ds s es fs vs k ty f = have_types p typed.functions f.0 (applications_typed p typed.functions f.0) s k ty vs (all_fit_worth p f.0 s es vs (f.1 f.0 (self f.0)))

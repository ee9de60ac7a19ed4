-- The law for methods that lead to functions, where the functions keep what they promise wherever they start: a method whose walk passed
-- doesn't fail.
use Rattle.std.proofs.Common.{◌≡◌, List, Some, None, refl}
use Rattle.vx_ast.specs.declared.Place.{Place}
use Rattle.vx_ast.specs.Syntax.{Name, Program, IsMethod, Method, member_named}
use Rattle.vx_smt_meaning.specs.declared.reply.Reply.{Reply}
use Rattle.vx_meaning.specs.Fails.{MethodFails}
use Rattle.vx_types.specs.Premises.{IsTypedProgram}
use Rattle.vx_types.specs.Closure.{InClosure}
use Rattle.vx_sound.specs.Law.{Passes}
use Rattle.vx_sound.proofs.Marks.{Unmarked}
use Rattle.vx_sound_preds.specs.Covered.{PredicatesPass}
use Rattle.vx_sound_preds.proofs.Holding.{Applying}
use Rattle.vx_sound_preds.proofs.Soundness.{method_sound_by}
use Rattle.vx_sound_funcs.specs.Firm.{GoodFunctions}
use Rattle.vx_law.specs.Means.{Means}
use Rattle.vx_law.specs.Walks.{FunctionsKeep}
use Rattle.vx_law.specs.Allowed.{TakenIsAllowed}
use Rattle.vx_law.proofs.Below.{asked_mentioned}
use Rattle.vx_law.proofs.Lower.{leads_on}
use Rattle.vx_law.proofs.Tells.{applies_go}

-- all functions that x leads to may be applied, and none is walked
abbrev pub all_applied : Program → Name → Applying
all_applied p x = record { marks = Unmarked; Applied = InClosure p x; own = None; Measured = λ h f vs. Unit {0} }

pub method_sound : (p : Program) (x : Name) (m : Method) (replies : Name → List Reply) → IsTypedProgram p → GoodFunctions p → PredicatesPass p x replies → TakenIsAllowed p x → FunctionsKeep p x →
    member_named p x ≡ Some (IsMethod m) → Passes p x (IsMethod m) (replies x) → (at : Place) → MethodFails p m at → ⊥
method_sound p x m replies typed functions predicates taken keep named own at fails =
    method_sound_by (Means p x) p x m replies typed named (all_applied p x) refl refl (λ f g leads is. leads)
    (applies_go p x replies typed functions predicates (all_applied p x) (λ f leads. leads) (λ f g y d leads named s named'. leads_on p x f g leads named y (asked_mentioned p g y s))
    (λ f g leads named. taken f g leads named (λ f' g' leads' named' r apart. keep f' g' leads' named')) (λ scope i s c f g ts vs snapshot a is start starts store heap. keep f g a.applied is start starts) (λ scope i s c f g ts vs snapshot a. tt))
    predicates own at fails

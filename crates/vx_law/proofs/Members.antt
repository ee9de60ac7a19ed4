-- The law: a member doesn't fail, where the walks of all that it leads to passed.
use Rattle.std.proofs.Common.{◌≡◌, ℤ, true, List, Option, Some, ap}
use Rattle.vx_ast.specs.Syntax.{Name, Program, Kind, IsField, IsPredicate, IsFunction, IsMethod, Function, function_named, member_named, function_in, predicate_in}
use Rattle.vx_smt_meaning.specs.declared.reply.Reply.{Reply}
use Rattle.vx_meaning.specs.States.{State}
use Rattle.vx_meaning.specs.Fails.{Fails, FunctionFails, FunctionStarts}
use Rattle.vx_types.specs.Premises.{IsTypedProgram}
use Rattle.vx_types.specs.Closure.{InClosure, itself}
use Rattle.vx_sound.proofs.Marks.{Marks}
use Rattle.vx_sound_preds.specs.Covered.{PredicatesPass}
use Rattle.vx_sound_preds.proofs.Speaking.{predicate_member, good, no_perm, speak}
use Rattle.vx_sound_preds.proofs.Mentioning.{function_member}
use Rattle.vx_sound_preds.proofs.Soundness.{typed_predicate_sound}
use Rattle.vx_sound_preds.proofs.Unfolds.{AppliesBy}
use Rattle.vx_sound_preds.proofs.Lowered.{LowersFrom, lowers_refutes}
use Rattle.vx_sound_preds.proofs.Functions.{IsMeasureOf, in_body_of}
use Rattle.vx_sound_preds.proofs.FunctionWalks.{function_sound_by}
use Rattle.vx_sound_funcs.specs.Firm.{GoodFunctions}
use Rattle.vx_sound_funcs.proofs.TypedFunctions.{good_functions}
use Rattle.vx_law.specs.Means.{Means}
use Rattle.vx_law.specs.Walks.{FunctionsPass, FunctionsKeep}
use Rattle.vx_law.specs.Allowed.{LowerKeep, IsAllowedWhereTaken, TakenIsAllowed}
use Rattle.vx_law.proofs.Groups.{groups_agree}
use Rattle.vx_law.specs.Law.{MembersAreSound}
use Rattle.vx_law.proofs.Tells.{applies_go}
use Rattle.vx_law.proofs.Methods.{method_sound}
use Rattle.vx_law.proofs.Lower.{IsLower, asked_is_lower}
use Rattle.vx_law.proofs.Taken.{asks_go, taken_is_allowed}
use Rattle.vx_law.proofs.Walks.{Reached, may, closed, measured, promises_kept}

-- a function, where all functions keep what they promise
module _ (p : Program) (x : Name) (replies : Name → List Reply) (typed : IsTypedProgram p) (functions : GoodFunctions p) (predicates : PredicatesPass p x replies) (pass : FunctionsPass p x replies) (keep : FunctionsKeep p x)
    (f : Name) (g : Function) (leads : InClosure p x f) (named : function_named p f ≡ Some g) where
  lower : LowerKeep p x f
  lower f' g' leads' named' r apart = keep f' g' leads' named'

  taken : (f' : Name) (g' : Function) → InClosure p x f' → function_named p f' ≡ Some g' → IsAllowedWhereTaken p x f' g'
  taken f' g' leads' named' = taken_is_allowed p x replies typed functions predicates pass f' g' leads' named' (λ y d leads'' named'' r apart. keep y d leads'' named'')

  within : (s : State) → FunctionStarts p g s → (z : Option ℤ) (marks : Marks) → IsMeasureOf p s g.decreases z marks →
      AppliesBy (Means p x) p (good p x typed) (InClosure p x) (no_perm p x typed) true (in_body_of (Reached p x replies typed functions predicates pass f g leads named) f z marks s.heap (LowersFrom p f g s)) (speak p x typed)
  within s starts z marks is =
      applies_go p x replies typed functions predicates (in_body_of (Reached p x replies typed functions predicates pass f g leads named) f z marks s.heap (LowersFrom p f g s)) (λ y k. k.0)
      (closed p x replies typed functions predicates pass f g leads named) (λ f' g' k named'. taken f' g' k.0 named') (λ scope i st c f' g' ts vs term a is' t starts' store heap. keep f' g' a.applied.0 a.is t starts') (measured p x replies typed functions predicates pass f g leads named s starts z marks is)

  pub function_sound : FunctionFails p f g → ⊥
  function_sound =
      function_sound_by p x typed f g leads named (functions.asks f g named) (IsLower p x f) (Reached p x replies typed functions predicates pass f g leads named) (λ y d s named' leads'. asked_is_lower p x typed f g leads named y s) (may p x replies typed functions predicates pass f g leads named) (Means p x) (replies f) (pass f g leads named)
      (asks_go p x replies typed functions predicates f lower (λ f' g' l named'. taken f' g' l.0 named')) (LowersFrom p f g) within (λ s starts a lowers. lowers_refutes p f g s a (groups_agree p f a.0).1 lowers)

pub members_sound : MembersAreSound
members_sound p x k replies typed named all = go k named
  where
    functions : GoodFunctions p
    functions = good_functions p typed

    predicates : PredicatesPass p x replies
    predicates i d c e = all i (IsPredicate d) c (predicate_member (member_named p i) d e)

    pass : FunctionsPass p x replies
    pass f g c e = all f (IsFunction g) c (function_member (member_named p f) g e)

    go : (k : Kind) → member_named p x ≡ Some k → Fails p x k → ⊥
    go (IsField t) named fails = absurd fails
    go (IsPredicate d) named fails = typed_predicate_sound p x d (replies x) typed (ap predicate_in named) (all x (IsPredicate d) itself named) fails
    go (IsFunction g) named fails = function_sound p x replies typed functions predicates pass (promises_kept p x replies typed functions predicates pass) x g itself (ap function_in named) fails
    go (IsMethod m) named fails = method_sound p x m replies typed functions predicates (taken_is_allowed p x replies typed functions predicates pass) (promises_kept p x replies typed functions predicates pass) named (all x (IsMethod m) itself named) fails.0 fails.1

pub taken_allowed : (p : Program) (x : Name) (replies : Name → List Reply) → IsTypedProgram p → PredicatesPass p x replies → FunctionsPass p x replies → TakenIsAllowed p x
taken_allowed p x replies typed predicates pass = taken_is_allowed p x replies typed (good_functions p typed) predicates pass

-- The law of the part with predicates: where the walks of all that a member leads to passed, it doesn't fail.
use Rattle.std.proofs.Common.{◌≡◌, true, List, Some, None, refl, ap}
use Rattle.vx_ast.specs.declared.Place.{Place}
use Rattle.vx_ast.specs.Syntax.{Name, Program, Kind, IsField, IsPredicate, IsFunction, IsMethod, Method, Predicate, member_named, predicate_named, method_in, predicate_in}
use Rattle.vx_smt_meaning.specs.declared.reply.Reply.{Reply}
use Rattle.vx_rules.specs.Members.{method_tree}
use Rattle.vx_types.specs.Premises.{IsTypedProgram}
use Rattle.vx_types.specs.Closure.{InClosure, itself}
use Rattle.vx_meaning.specs.Fails.{MethodFails, Fails}
use Rattle.vx_elements.proofs.Settled.{Meaning}
use Rattle.vx_sound.specs.Law.{Passes, SoundLaw}
use Rattle.vx_sound.proofs.Marks.{Unmarked}
use Rattle.vx_sound.proofs.Passes.{cleared}
use Rattle.vx_sound.proofs.Methods.{method_goes}
use Rattle.vx_types.specs.InstanceLanguage.{IsInstanceMember}
use Rattle.vx_sound_preds.specs.Covered.{PredicatesPass}
use Rattle.vx_sound_preds.proofs.Holding.{Applying, nothing_applied, functions_world}
use Rattle.vx_sound_preds.proofs.Speaking.{predicate_member, good, no_perm, speak}
use Rattle.vx_sound_preds.proofs.Mentioning.{function_member, NoFunction, MayApply, method_says}
use Rattle.vx_sound_preds.proofs.Unfolds.{AppliesBy, parts_go, unfold_goes}
use Rattle.vx_sound_preds.proofs.Folded.{folds_go}
use Rattle.vx_sound_preds.proofs.Walks.{no_function, predicate_sound, proper_covered}
use Rattle.vx_sound_preds.proofs.Keeping.{functions_changing}

-- a predicate of a typed program
pub typed_predicate_sound : (p : Program) (i : Name) (d : Predicate) (replies : List Reply) → IsTypedProgram p → predicate_named p i ≡ Some d → Passes p i (IsPredicate d) replies → Fails p i (IsPredicate d) → ⊥
typed_predicate_sound p i d replies typed is pass fails = predicate_sound p (good p i typed) (InClosure p i) (no_perm p i typed) (speak p i typed) i d replies itself is pass fails

-- A method of a typed program, where what is shown of the applications of the functions that it leads to is given, and the walks
-- of all predicates that it leads to passed.
pub method_sound_by : (means : Meaning) (p : Program) (x : Name) (m : Method) (replies : Name → List Reply) (typed : IsTypedProgram p) → member_named p x ≡ Some (IsMethod m) →
    (applying : Applying) → applying.own ≡ None → applying.marks ≡ Unmarked → MayApply p x applying.Applied → AppliesBy means p (good p x typed) (InClosure p x) (no_perm p x typed) true applying (speak p x typed) →
    PredicatesPass p x replies → Passes p x (IsMethod m) (replies x) → (at : Place) → MethodFails p m at → ⊥
method_sound_by means p x m replies typed named applying none unmarked may applies pass own at fails =
    let gb = good p x typed in
    let np = no_perm p x typed in
    let sp = speak p x typed in
    let t = typed.methods x m (ap method_in named) in
    let covered = proper_covered p gb x np sp replies pass in
    let parts = parts_go means p gb (InClosure p x) np true applying sp applies in
    method_goes means (functions_world p gb (InClosure p x) np true applying) (functions_changing p gb x np covered applying none unmarked) parts (folds_go means p gb (InClosure p x) np applying sp parts)
    (unfold_goes means p gb (InClosure p x) np true applying sp parts) m t (method_says p x applying may typed gb np m named t) (cleared (method_tree p m) (replies x) own.0 own.1) at fails

-- a member of a typed program that leads to no function
pub member_sound : (p : Program) (x : Name) (k : Kind) (replies : Name → List Reply) → IsTypedProgram p → member_named p x ≡ Some k →
    ((y : Name) (l : Kind) → InClosure p x y → member_named p y ≡ Some l → IsInstanceMember l × Passes p y l (replies y)) → Fails p x k → ⊥
member_sound p x (IsField t) replies typed named all fails = absurd fails
member_sound p x (IsFunction g) replies typed named all fails = absurd (all x (IsFunction g) itself named).0
member_sound p x (IsPredicate d) replies typed named all fails =
    predicate_sound p (good p x typed) (InClosure p x) (no_perm p x typed) (speak p x typed) x d (replies x) itself (ap predicate_in named) (all x (IsPredicate d) itself named).1 fails
member_sound p x (IsMethod m) replies typed named all fails =
    let none : NoFunction p x = λ f g c e. (all f (IsFunction g) c (function_member (member_named p f) g e)).0 in
    method_sound_by no_function p x m replies typed named nothing_applied refl refl none none_apply (λ i d c e. (all i (IsPredicate d) c (predicate_member (member_named p i) d e)).1) (all x (IsMethod m) itself named).1 fails.0 fails.1
  where
    none_apply : AppliesBy no_function p (good p x typed) (InClosure p x) (no_perm p x typed) true nothing_applied (speak p x typed)
    none_apply d below scope i s c at f g ts vs on allowed is each st h = absurd allowed

pub instance_members_sound : SoundLaw IsInstanceMember
instance_members_sound p x k replies = member_sound p x k replies

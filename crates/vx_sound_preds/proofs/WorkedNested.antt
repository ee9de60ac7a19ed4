-- A predicate whose body unfolds an instance within it: its walk passes, and its proper instances are covered.
use Rattle.std.proofs.Common.{◌≡◌, ◌<◌, inl, inr, ℕ, zero, suc, Bool, true, false, [], ◌∷◌, Option, Some, None, slice_get, refl, subst, arith}
use Rattle.std.specs.Prelude.{unwrap_or}
use Rattle.std.proofs.lemmas.Option.{same_Some}
use Rattle.vx_frac.specs.Fractions.{lowest, over, none, at_most}
use Rattle.vx_ast.specs.declared.ValueType.TheVariants.{Int}
use Rattle.vx_ast.specs.Syntax.{Name, same_name, Member, Kind, IsField, IsPredicate, Predicate, Function, Method, Assertion, Equal, member_named, predicate_in, function_in, method_in, predicate_named, function_named, method_named}
use Rattle.vx_meaning.specs.Values.{RefValue}
use Rattle.vx_meaning.specs.States.{At, HaveTypes, amount}
use Rattle.vx_meaning.specs.Flatten.{flat}
use Rattle.vx_meaning.specs.Fails.{Fails}
use Rattle.vx_rules.specs.Members.{rules}
use Rattle.vx_types.specs.Typing.{IsTypedPredicate, number, part, variable, operates, reads, unfoldings, no_more, more}
use Rattle.vx_ast.specs.Apart.{Stands, entered_by_body}
use Rattle.vx_ast.specs.Apart.{ReachesBy}
use Rattle.vx_types.specs.Now.{SaysNow}
use Rattle.vx_types.specs.Premises.{HasConstantAmounts, IsTypedProgram}
use Rattle.vx_types.specs.Closure.{itself}
use Rattle.vx_sound.specs.Law.{Passes}
use Rattle.vx_sound.specs.Examples.{on_line}
use Rattle.vx_sound_preds.specs.Covered.{Covered, IsProper, PredicatesPass}
use Rattle.vx_sound_preds.specs.Examples.{here, P, f, x, cell, cell_body}
use Rattle.vx_sound_preds.specs.FoldExamples.{Q, holder, holder_body, nested, its_instance}
use Rattle.vx_sound_preds.proofs.Kept.{bodies_covered}
use Rattle.vx_sound_preds.proofs.Soundness.{typed_predicate_sound}

one_positive : 0 < 1
one_positive = omega arith

nothing : {A R : Type 0} (a : A) → (let o : Option A = None in o) ≡ Some a → R
nothing a e = cc

-- what a name can stand for
by_name : (T : Option Kind → Type 0) → T (Some (IsField Int)) → T (Some (IsPredicate cell)) → T (Some (IsPredicate holder)) → T None → (y : Name) → T (member_named nested y)
by_name T at_f at_p at_q at_none y = go (same_name y f) (same_name y P) (same_name y Q)
  where
    go : (a b d : Bool) → T (elim a as (λ e. Option Kind) [
      | true ↦ Some (IsField Int)
      | false ↦ elim b as (λ e. Option Kind) [ true ↦ Some (IsPredicate cell) | false ↦ elim d as (λ e. Option Kind) [ true ↦ Some (IsPredicate holder) | false ↦ None ] ]
    ])
    go true b d = at_f
    go false true d = at_p
    go false false true = at_q
    go false false false = at_none

no_function : (y : Name) (g : Function) → function_named nested y ≡ Some g → ⊥
no_function = by_name (λ o. (g : Function) → function_in o ≡ Some g → ⊥) nothing nothing nothing nothing

no_method : (y : Name) (m : Method) → method_named nested y ≡ Some m → ⊥
no_method = by_name (λ o. (m : Method) → method_in o ≡ Some m → ⊥) nothing nothing nothing nothing

-- what holds of both predicates
each : (T : Predicate → Type 0) → T cell → T holder → (y : Name) (d : Predicate) → predicate_named nested y ≡ Some d → T d
each T of_cell of_holder = by_name (λ o. (d : Predicate) → predicate_in o ≡ Some d → T d) (λ d e. nothing d e) (λ d e. subst T (same_Some cell d e) of_cell) (λ d e. subst T (same_Some holder d e) of_holder) (λ d e. nothing d e)

each_body : (T : Assertion → Type 0) → T cell_body → T holder_body → (y : Name) (d : Predicate) (a : Assertion) → predicate_named nested y ≡ Some d → d.body ≡ Some a → T a
each_body T of_cell of_holder y d a is body = each (λ d. (a : Assertion) → d.body ≡ Some a → T a) (λ a e. subst T (same_Some cell_body a e) of_cell) (λ a e. subst T (same_Some holder_body a e) of_holder) y d is a body

named : (n : ℕ) (k : Member) → slice_get nested n ≡ Some k → member_named nested k.name ≡ Some k.kind
named zero k e = subst (λ (k : Member). member_named nested k.name ≡ Some k.kind) (same_Some (record { name = f; kind = IsField Int }) k e) refl
named (suc zero) k e = subst (λ (k : Member). member_named nested k.name ≡ Some k.kind) (same_Some (record { name = P; kind = IsPredicate cell }) k e) refl
named (suc (suc zero)) k e = subst (λ (k : Member). member_named nested k.name ≡ Some k.kind) (same_Some (record { name = Q; kind = IsPredicate holder }) k e) refl
named (suc (suc (suc n))) k e = cc

cell_typed : IsTypedPredicate nested cell
cell_typed = record {
  names = (refl, tt);
  parameters = ((λ e. cc), tt);
  body = ((variable here x refl, (Int, refl), part here 1 1 one_positive), operates {op = Equal} {t = Int} tt (reads f refl (variable here x refl)) (number here 0));
}

holder_typed : IsTypedPredicate nested holder
holder_typed = record {
  names = (refl, tt);
  parameters = ((λ e. cc), tt);
  body = (
    ((cell, refl, more (variable (on_line 1) x refl) no_more), part (on_line 1) 1 1 one_positive),
    unfoldings P cell refl (more (variable (on_line 1) x refl) no_more) (part (on_line 1) 1 1 one_positive) (operates {op = Equal} {t = Int} tt (reads f refl (variable (on_line 4) x refl)) (number (on_line 4) 0)),
  );
}

-- only P is entered, and it leads nowhere
entered : (y : Name) (d : Predicate) (z : Name) → predicate_named nested y ≡ Some d → Stands z (entered_by_body d.body) → z ≡ P
entered y d z is = each (λ d. Stands z (entered_by_body d.body) → z ≡ P) (λ s. absurd s) last y d is
  where
    last : Stands z (entered_by_body holder.body) → z ≡ P
    last (inl e) = e
    last (inr s) = absurd s

leads_nowhere : (n : ℕ) (y : Name) → ReachesBy nested n P y → ⊥
leads_nowhere zero y r = r
leads_nowhere (suc n) y (inl s) = s
leads_nowhere (suc n) y (inr r) = r.1

pub nested_typed : IsTypedProgram nested
nested_typed = record {
  names = named;
  predicates = each (IsTypedPredicate nested) cell_typed holder_typed;
  functions = λ y g e. absurd (no_function y g e);
  methods = λ y m e. absurd (no_method y m e);
  bodies = each_body HasConstantAmounts ((over 1 1, (λ p ap s. refl), refl), tt) ((over 1 1, (λ p ap s. refl), refl), tt);
  now = each_body SaysNow ((tt, tt), (tt, tt)) (((tt, tt), tt), ((tt, tt), tt, (tt, tt)));
  preconditions = λ y g e. absurd (no_function y g e);
  functions_now = λ y g e. absurd (no_function y g e);
  apart = record {
    measure = λ y g z e st. absurd (no_function y g e);
    body = λ y d z e st g is. absurd (no_function z g is);
    precondition = λ y g z e st r. absurd (no_function y g e);
    unfolding_body = λ y d z e st r. leads_nowhere r.0 y (subst (λ (z : Name). ReachesBy nested r.0 z y) (entered y d z e st) r.1);
  };
}

pub holder_passes : Passes nested Q (IsPredicate holder) []
unfolding lowest rules
holder_passes = (refl, tt)

cell_passes : Passes nested P (IsPredicate cell) []
unfolding lowest rules
cell_passes = (refl, tt)

all_pass : PredicatesPass nested Q (λ y. [])
all_pass y d c is = each (λ (d : Predicate). Passes nested y (IsPredicate d) []) cell_passes holder_passes y d is

pub holder_never_fails : Fails nested Q (IsPredicate holder) → ⊥
holder_never_fails = typed_predicate_sound nested Q holder [] nested_typed refl holder_passes

pub nested_covered : Covered nested (IsProper nested Q)
nested_covered = bodies_covered nested Q (λ y. []) nested_typed all_pass

pub proper_holder : IsProper nested Q [] (its_instance 1)
proper_holder = record {
  seen = itself;
  typed = λ d e. subst (λ (d : Predicate). HaveTypes d.parameters (RefValue 1 ∷ [])) (same_Some holder d e) (refl, tt);
  grounded = (2, _, refl);
  null = nothing_of_null;
}
  where
    nothing_of_null : (n : ℕ) (g : Name) → at_most (amount (unwrap_or (flat nested n [] (its_instance 1)) []) (At record { receiver = 0; field = g })) none ≡ true
    nothing_of_null zero g = refl
    nothing_of_null (suc zero) g = refl
    nothing_of_null (suc (suc n)) g = refl

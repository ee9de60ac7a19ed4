-- The program of boxes is typed, its predicate's walk passes, and a state that holds a box can be.
use Rattle.std.proofs.Common.{◌≡◌, inl, ◌<◌, ℕ, zero, suc, ℤ, Bool, true, false, cond, [], ◌∷◌, Option, Some, None, slice_get, refl, sym, ◌∙◌, ap, subst, arith}
use Rattle.vx_frac.specs.Fractions.{none, full, at_most, over, sum, product, lowest}
use Rattle.vx_ast.specs.declared.ValueType.TheVariants.{Int}
use Rattle.vx_ast.specs.Syntax.{Name, same_name, result_name, Member, Predicate, Method, Assertion, Kind, IsField, IsPredicate, IsFunction, Equal, Add, member_named, predicate_named, method_in, method_named, joined}
use Rattle.vx_ast.specs.Apart.{Stands, entered_by, entered_by_body, entered_by_measure}
use Rattle.vx_types.specs.Typing.{IsTypedPredicate, IsTypedFunction, variable, part, operates, reads, applies, unfoldings, no_more, more}
use Rattle.vx_terms.specs.Interpretations.{Each, IntLeaf}
use Rattle.vx_types.specs.Now.{SaysNow, SpeaksOfNow}
use Rattle.vx_types.specs.Premises.{HasConstantAmounts, IsTypedProgram}
use Rattle.vx_types.specs.Closure.{itself}
use Rattle.vx_meaning.specs.States.{State, Location, Folded, same_location, same_resource, with_store}
use Rattle.vx_meaning.specs.Values.{IntValue, RefValue}
use Rattle.vx_meaning.specs.Flatten.{IsGrounded}
use Rattle.vx_meaning.specs.Consistent.{total, IsConsistent}
use Rattle.vx_sound.specs.Law.{Passes}
use Rattle.vx_sound_preds.specs.Covered.{PredicatesPass, IsStocked}
use Rattle.vx_sound_preds.specs.Examples.{here, x, f, P, instance_of}
use Rattle.vx_sound_funcs.specs.Told.{precondition_of, IsValueOf}
use Rattle.vx_sound_preds.specs.Asking.{IsAskingTreeOf}
use Rattle.vx_sound_funcs.specs.Examples.{box, box_body, get, getter, twice, doubler, peek, peeker, boxes, field_of, x_is_one, holding}
use Rattle.vx_sound_funcs.proofs.Worked.{the_predicate, each_function, same_assertion, only_box, its_tree, whole_number}
use Rattle.vx_sound_funcs.proofs.Laws.{agree}

same_member : (a b : Member) → Some a ≡ Some b → a ≡ b
same_member a b e = cc

names : (n : ℕ) (m : Member) → slice_get boxes n ≡ Some m → member_named boxes m.name ≡ Some m.kind
names zero m e = subst (λ (m : Member). member_named boxes m.name ≡ Some m.kind) (same_member (record { name = f; kind = IsField Int }) m e) refl
names (suc zero) m e = subst (λ (m : Member). member_named boxes m.name ≡ Some m.kind) (same_member (record { name = P; kind = IsPredicate box }) m e) refl
names (suc (suc zero)) m e = subst (λ (m : Member). member_named boxes m.name ≡ Some m.kind) (same_member (record { name = get; kind = IsFunction getter }) m e) refl
names (suc (suc (suc zero))) m e = subst (λ (m : Member). member_named boxes m.name ≡ Some m.kind) (same_member (record { name = twice; kind = IsFunction doubler }) m e) refl
names (suc (suc (suc (suc zero)))) m e = subst (λ (m : Member). member_named boxes m.name ≡ Some m.kind) (same_member (record { name = peek; kind = IsFunction peeker }) m e) refl
names (suc (suc (suc (suc (suc n))))) m e = cc

no_method : (y : Name) (m : Method) → method_named boxes y ≡ Some m → ⊥
no_method y m e = go (same_name y f) (same_name y P) (same_name y get) (same_name y twice) (same_name y peek) e
  where
    go : (a b c k l : Bool) → method_in (elim a as (λ z. Option Kind) [
      | true ↦ Some (IsField Int)
      | false ↦ elim b as (λ z. Option Kind) [
        | true ↦ Some (IsPredicate box)
        | false ↦ elim c as (λ z. Option Kind) [
          | true ↦ Some (IsFunction getter)
          | false ↦ elim k as (λ z. Option Kind) [ true ↦ Some (IsFunction doubler) | false ↦ elim l as (λ z. Option Kind) [ true ↦ Some (IsFunction peeker) | false ↦ None ] ]
        ]
      ]
    ]) ≡ Some m → ⊥
    go true b c k l e = cc
    go false true c k l e = cc
    go false false true k l e = cc
    go false false false true l e = cc
    go false false false false true e = cc
    go false false false false false e = cc

one_positive : 0 < 1
one_positive = omega arith

box_typed : IsTypedPredicate boxes box
box_typed = record {
  names = (refl, tt);
  parameters = ((λ e. cc), tt);
  body = (variable here x refl, (Int, refl), part here 1 1 one_positive);
}

getter_typed : IsTypedFunction boxes getter
getter_typed = record {
  names = (refl, tt);
  parameters = ((λ e. cc), tt);
  requires = (((box, refl, more (variable here x refl) no_more), part here 1 1 one_positive), tt);
  ensures = tt;
  measure = tt;
  body = unfoldings P box refl (more (variable here x refl) no_more) (part here 1 1 one_positive) (reads f refl (variable here x refl));
}

doubler_typed : IsTypedFunction boxes doubler
doubler_typed = record {
  names = (refl, tt);
  parameters = ((λ e. cc), tt);
  requires = (((box, refl, more (variable here x refl) no_more), part here 1 1 one_positive), tt);
  ensures = (operates {op = Equal} {t = Int} tt (variable here result_name refl) (operates {op = Add} {t = Int} (inl refl) (applies get getter refl (more (variable here x refl) no_more)) (applies get getter refl (more (variable here x refl) no_more))), tt);
  measure = tt;
  body = operates {op = Add} {t = Int} (inl refl) (applies get getter refl (more (variable here x refl) no_more)) (applies get getter refl (more (variable here x refl) no_more));
}

peeker_typed : IsTypedFunction boxes peeker
peeker_typed = record {
  names = (refl, tt);
  parameters = ((λ e. cc), tt);
  requires = tt;
  ensures = tt;
  measure = tt;
  body = reads f refl (variable here x refl);
}

-- what holds of the one body
each_body : (Q : Assertion → Type 0) → Q box_body → (y : Name) (d : Predicate) (a : Assertion) → predicate_named boxes y ≡ Some d → d.body ≡ Some a → Q a
each_body Q q y d a named body = subst Q (same_assertion box_body a (ap (λ (d : Predicate). d.body) (the_predicate y d named) ∙ body)) q

pub boxes_typed : IsTypedProgram boxes
boxes_typed = record {
  names = names;
  predicates = λ y d e. subst (IsTypedPredicate boxes) (the_predicate y d e) box_typed;
  functions = each_function (IsTypedFunction boxes) getter_typed doubler_typed peeker_typed;
  methods = λ y m e. absurd (no_method y m e);
  bodies = each_body HasConstantAmounts (over 1 1, (λ p ap s. refl), refl);
  now = each_body SaysNow (tt, tt);
  preconditions = each_function (λ g. Each HasConstantAmounts g.requires) ((over 1 1, (λ p ap s. refl), refl), tt) ((over 1 1, (λ p ap s. refl), refl), tt) tt;
  functions_now = each_function SpeaksOfNow
      record { requires = (((tt, tt), tt), tt); ensures = tt; measure = tt; body = ((tt, tt), tt, tt) }
      record { requires = (((tt, tt), tt), tt); ensures = ((tt, ((tt, tt), (tt, tt))), tt); measure = tt; body = ((tt, tt), (tt, tt)) }
      record { requires = tt; ensures = tt; measure = tt; body = tt };
  apart = record {
    measure = λ y g z e st. absurd (each_function (λ g. Stands z (entered_by_measure g.decreases) → ⊥) (λ s. s) (λ s. s) (λ s. s) y g e st);
    body = λ y d z e st. absurd (enters_nothing y d z e st);
    precondition = λ y g z e st r. each_function (λ g. Stands z (entered_by (joined g.place g.requires)) → ⊥) (λ s. s) (λ s. s) (λ s. s) y g e st;
    unfolding_body = λ y d z e st r. enters_nothing y d z e st;
  };
}
  where
    enters_nothing : (y : Name) (d : Predicate) (z : Name) → predicate_named boxes y ≡ Some d → Stands z (entered_by_body d.body) → ⊥
    enters_nothing y d z e st = subst (λ (d : Predicate). Stands z (entered_by_body d.body) → ⊥) (the_predicate y d e) (λ s. s) st

box_passes : Passes boxes P (IsPredicate box) []
unfolding lowest
box_passes = (refl, tt)

pub boxes_pass : PredicatesPass boxes P (λ y. [])
boxes_pass y d c e = subst (λ (d : Predicate). Passes boxes P (IsPredicate d) []) (the_predicate y d e) box_passes

-- A state that holds a box can be, and nothing is owed in it.

pub box_can_be : (z : ℤ) → IsConsistent boxes (holding z)
box_can_be z = record {
  supported = record { grounded = only_box (λ i. IsGrounded boxes (holding z).heap i) (1, _, refl); null = null };
  bounded = bounded;
}
  where
    null : (n : ℕ) (g : Name) → at_most (total boxes n (holding z).heap (holding z).holdings record { receiver = 0; field = g }) none ≡ true
    null zero g = refl
    null (suc n) g = refl

    bounded : (n : ℕ) (l : Location) → at_most (total boxes n (holding z).heap (holding z).holdings l) full ≡ true
    bounded zero l = refl
    bounded (suc n) l = go (same_location l (field_of 1))
      where
        go : (b : Bool) → at_most (cond b (sum (product full (over 1 1)) none) none) full ≡ true
        go true = refl
        go false = refl

pub box_is_stocked : (z : ℤ) → IsStocked boxes P (holding z).holdings
box_is_stocked z = record { instances = ((itself, (box, refl, (refl, tt))), tt); debts = λ r. go (same_resource r (Folded (instance_of 1))) }
  where
    go : (b : Bool) → at_most none (cond b (sum full none) none) ≡ true
    go true = refl
    go false = refl

-- so any other application of `get` with this tree has this value
pub get_agrees : (z : ℤ) (t : State) → IsAskingTreeOf boxes (with_store x_is_one t) (precondition_of getter) (IntLeaf z) → IsValueOf boxes get (RefValue 1 ∷ []) t (IntValue z)
get_agrees z t there =
    let r = agree boxes P (λ y. []) boxes_typed boxes_pass get getter refl (RefValue 1 ∷ []) (tt, tt) 2 (holding z) t (IntValue z) (IntLeaf z) (box_can_be z) (box_is_stocked z) refl (its_tree z) there in
    subst (IsValueOf boxes get (RefValue 1 ∷ []) t) (sym (whole_number z r.0 r.2)) r.1

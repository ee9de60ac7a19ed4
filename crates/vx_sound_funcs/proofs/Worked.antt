-- A function that reads a field under an instance, one that applies it, and a body that doesn't fit.
use Rattle.std.proofs.Common.{◌≡◌, ℕ, zero, suc, ◌≤◌, ℤ, pos, Bool, true, false, cond, List, [], ◌∷◌, Option, Some, None, refl, sym, ◌∙◌, ap, subst, arith}
use Rattle.std.specs.Prelude.{unwrap_or, nat_eq, ◌&&◌, Ok, option_and_then, ◌+ℤ◌}
use Rattle.std.proofs.lemmas.Option.{same_Some}
use Rattle.vx_frac.specs.Fractions.{none, full, at_most, is_positive, over, sum}
use Rattle.vx_ast.specs.Syntax.{Name, same_name, conjoined, Predicate, Function, Assertion, Kind, IsField, IsPredicate, IsFunction, predicate_in, function_in, predicate_named, function_named}
use Rattle.vx_ast.specs.declared.ValueType.TheVariants.{Int}
use Rattle.vx_ast.specs.declared.ValueType.TheVariants as type
use Rattle.vx_meaning.specs.Values.{Value, IntValue, BoolValue, RefValue, PermValue}
use Rattle.vx_meaning.specs.States.{State, Heap, Holdings, Instance, Resource, At, Folded, Store, HaveTypes, lookup, bind, same_resource, amount}
use Rattle.vx_meaning.specs.Evaluate.{Applications, applications, values}
use Rattle.vx_meaning.specs.Flatten.{no_applications, bare, flat, body_entries, IsGrounded}
use Rattle.vx_meaning.specs.Fits.{◌>>=◌, guard, to_option, Fits, fit_by, add, deeper}
use Rattle.vx_terms.specs.Interpretations.{IntLeaf}
use Rattle.vx_terms.proofs.Same.{int_same}
use Rattle.vx_sound.specs.Snapshots.{leaf, IsTree}
use Rattle.vx_types.specs.Closure.{itself}
use Rattle.vx_types.specs.Now.{IsOfNow}
use Rattle.vx_sound_preds.specs.Bodies.{IsRigid, AreRigid, RigidStore, Rigid, IsAmount, GoodBodies, IsPlainBody}
use Rattle.vx_sound_preds.specs.Covered.{AllGood, Covered, IsProper}
use Rattle.vx_sound_preds.specs.Examples.{here, P, f, x, instance_of}
use Rattle.vx_sound_preds.proofs.Flats.{came}
use Rattle.vx_sound_preds.proofs.Grouped.{resource_is}
use Rattle.vx_sound_funcs.specs.Told.{LooksLike, precondition_of, IsValueOf}
use Rattle.vx_sound_preds.specs.Asking.{Says, HasRigidArguments, IsAskingTreeOf, IsAsking}
use Rattle.vx_sound_funcs.specs.Firm.{firm_application, firmly, FitsFirmly, GoodFunctions, HoldsFirmly}
use Rattle.vx_sound_funcs.specs.Examples.{its_x, all, box, box_body, get, getter, twice, doubler, peek, peeker, boxes, field_of, x_is_one, holding, bereft, looses, leads_to}
use Rattle.vx_sound_preds.proofs.Looks.{Sees}
use Rattle.vx_sound_preds.proofs.Same.{plain_asks}
use Rattle.vx_sound_funcs.proofs.Agree as agreeing

-- The members, by their names

pub the_predicate : (y : Name) (d : Predicate) → predicate_named boxes y ≡ Some d → box ≡ d
the_predicate y d e = go (same_name y f) (same_name y P) (same_name y get) (same_name y twice) (same_name y peek) e
  where
    go : (a b c k l : Bool) → predicate_in (elim a as (λ z. Option Kind) [
      | true ↦ Some (IsField Int)
      | false ↦ elim b as (λ z. Option Kind) [
        | true ↦ Some (IsPredicate box)
        | false ↦ elim c as (λ z. Option Kind) [
          | true ↦ Some (IsFunction getter)
          | false ↦ elim k as (λ z. Option Kind) [ true ↦ Some (IsFunction doubler) | false ↦ elim l as (λ z. Option Kind) [ true ↦ Some (IsFunction peeker) | false ↦ None ] ]
        ]
      ]
    ]) ≡ Some d → box ≡ d
    go true b c k l e = cc
    go false true c k l e = same_Some box d e
    go false false true k l e = cc
    go false false false true l e = cc
    go false false false false true e = cc
    go false false false false false e = cc

pub each_function : (Q : Function → Type 0) → Q getter → Q doubler → Q peeker → (y : Name) (h : Function) → function_named boxes y ≡ Some h → Q h
each_function Q q r s y h e = go (same_name y f) (same_name y P) (same_name y get) (same_name y twice) (same_name y peek) e
  where
    go : (a b c k l : Bool) → function_in (elim a as (λ z. Option Kind) [
      | true ↦ Some (IsField Int)
      | false ↦ elim b as (λ z. Option Kind) [
        | true ↦ Some (IsPredicate box)
        | false ↦ elim c as (λ z. Option Kind) [
          | true ↦ Some (IsFunction getter)
          | false ↦ elim k as (λ z. Option Kind) [ true ↦ Some (IsFunction doubler) | false ↦ elim l as (λ z. Option Kind) [ true ↦ Some (IsFunction peeker) | false ↦ None ] ]
        ]
      ]
    ]) ≡ Some h → Q h
    go true b c k l e = cc
    go false true c k l e = cc
    go false false true k l e = subst Q (same_Some getter h e) q
    go false false false true l e = subst Q (same_Some doubler h e) r
    go false false false false true e = subst Q (same_Some peeker h e) s
    go false false false false false e = cc

-- What is good

looked_up : (y : Name) (xs : Store) (v : Value) → RigidStore xs → lookup y xs ≡ Some v → IsRigid v
looked_up y [] v h e = cc
looked_up y (z ∷ xs) v h e = go (same_name y z.0) (looked_up y xs v h.1) e
  where
    go : (b : Bool) → (lookup y xs ≡ Some v → IsRigid v) → cond b (Some z.1) (lookup y xs) ≡ Some v → IsRigid v
    go true f e = subst IsRigid (same_Some z.1 v e) h.0
    go false f e = f e

-- the argument x is no amount
x_is_rigid : (ap : Applications) (s : State) (vs : List Value) → Rigid s → values boxes ap s its_x ≡ Some vs → AreRigid vs
x_is_rigid ap s vs h e =
    let v = came (lookup x s.store) (λ v. Some (v ∷ [])) vs e in
    subst AreRigid (same_Some (v.it ∷ []) vs v.then) (looked_up x s.store v.it h v.is, tt)

whole_amount : IsAmount boxes all
whole_amount = record { plain = tt; amount = over 1 1; above = refl; value_is = λ s. refl }

box_is_plain : IsPlainBody boxes Rigid box_body
box_is_plain = (tt, whole_amount)

pub same_assertion : (a b : Assertion) → Some a ≡ Some b → a ≡ b
same_assertion a b e = cc

pub boxes_are_good : GoodBodies boxes
boxes_are_good = record {
  plain = λ i d e named body. subst (IsPlainBody boxes Rigid) (same_assertion box_body e (ap (λ (d : Predicate). d.body) (the_predicate i d named) ∙ body)) box_is_plain;
}

asks_for_a_box : IsPlainBody boxes Rigid (precondition_of getter)
asks_for_a_box = ((tt, tt), whole_amount, λ s vs h e. x_is_rigid no_applications s vs h e)

promises_of_now : (y : Name) (h : Function) → function_named boxes y ≡ Some h → IsOfNow (conjoined h.place h.ensures)
promises_of_now = each_function (λ h. IsOfNow (conjoined h.place h.ensures)) tt (tt, ((tt, tt), (tt, tt))) tt

pub functions_are_good : GoodFunctions boxes
functions_are_good = record {
  asks = each_function (λ h. IsAsking boxes (precondition_of h)) (plain_asks boxes (precondition_of getter) asks_for_a_box) (plain_asks boxes (precondition_of doubler) asks_for_a_box) tt;
  says = each_function (λ h. Says (HasRigidArguments boxes) h.body) ((tt, tt), tt, tt)
      (((λ n s vs h e. x_is_rigid (applications boxes n) s vs h e), (tt, tt)), ((λ n s vs h e. x_is_rigid (applications boxes n) s vs h e), (tt, tt))) tt;
  promises_now = promises_of_now;
}

-- What is covered

box_fits : (h : Heap) (vs : List Value) → HaveTypes box.parameters vs → (m : ℕ) × (u : State) × (add boxes (deeper boxes m) full box_body (bare (bind box.parameters vs) h) ≡ Ok u)
box_fits h [] t = absurd t
box_fits h (v ∷ w ∷ vs) t = absurd t.1
box_fits h (RefValue r ∷ []) t = (0, _, refl)
box_fits h (IntValue r ∷ []) t = other t.0
  where
    other : {R : Type 0} → type.Int ≡ type.Ref → R
    other e = cc
box_fits h (BoolValue r ∷ []) t = other t.0
  where
    other : {R : Type 0} → type.Bool ≡ type.Ref → R
    other e = cc
box_fits h (PermValue r ∷ []) t = other t.0
  where
    other : {R : Type 0} → type.Perm ≡ type.Ref → R
    other e = cc

no_folded : (h : Heap) (vs : List Value) (es : Holdings) → HaveTypes box.parameters vs → body_entries boxes h vs box ≡ Some es → AllGood (IsProper boxes P) h es
no_folded h [] es t e = absurd t
no_folded h (v ∷ w ∷ vs) es t e = absurd t.1
no_folded h (RefValue r ∷ []) es t e = subst (AllGood (IsProper boxes P) h) (same_Some ((At (field_of r), over 1 1) ∷ []) es e) tt
no_folded h (IntValue r ∷ []) es t e = cc
no_folded h (BoolValue r ∷ []) es t e = cc
no_folded h (PermValue r ∷ []) es t e = cc

pub boxes_covered : Covered boxes (IsProper boxes P)
boxes_covered = record { fits = fits; inside = inside }
  where
    fits : (h : Heap) (i : Instance) (d : Predicate) (e : Assertion) → predicate_named boxes i.predicate ≡ Some d → d.body ≡ Some e → IsProper boxes P h i → IsGrounded boxes h i →
        (m : ℕ) × (u : State) × (add boxes (deeper boxes m) full e (bare (bind d.parameters i.arguments) h) ≡ Ok u)
    fits h i d e named body k g =
        let is = the_predicate i.predicate d named in
        let e_is = same_assertion box_body e (ap (λ (d : Predicate). d.body) is ∙ body) in
        subst (λ (e : Assertion). (m : ℕ) × (u : State) × (add boxes (deeper boxes m) full e (bare (bind d.parameters i.arguments) h) ≡ Ok u)) e_is
        (subst (λ (d : Predicate). HaveTypes d.parameters i.arguments → (m : ℕ) × (u : State) × (add boxes (deeper boxes m) full box_body (bare (bind d.parameters i.arguments) h) ≡ Ok u)) is
        (box_fits h i.arguments) (k.typed d named))

    inside : (h : Heap) (i : Instance) (es : Holdings) → IsProper boxes P h i → option_and_then (λ d. body_entries boxes h i.arguments d) (predicate_named boxes i.predicate) ≡ Some es → AllGood (IsProper boxes P) h es
    inside h i es k e =
        let d = came (predicate_named boxes i.predicate) (λ d. body_entries boxes h i.arguments d) es e in
        subst (λ (d : Predicate). HaveTypes d.parameters i.arguments → body_entries boxes h i.arguments d ≡ Some es → AllGood (IsProper boxes P) h es) (the_predicate i.predicate d.it d.is)
        (no_folded h i.arguments es) (k.typed d.it d.is) d.then

-- P(1) is held

proper_box : (h : Heap) → IsProper boxes P h (instance_of 1)
proper_box h = record {
  seen = itself;
  typed = λ d e. subst (λ (d : Predicate). HaveTypes d.parameters (RefValue 1 ∷ [])) (the_predicate P d e) (refl, tt);
  grounded = (1, _, refl);
  null = nothing;
}
  where
    nothing : (n : ℕ) (g : Name) → at_most (amount (unwrap_or (flat boxes n h (instance_of 1)) []) (At record { receiver = 0; field = g })) none ≡ true
    nothing zero g = refl
    nothing (suc n) g = refl

pub only_box : (Q : Instance → Type 0) → Q (instance_of 1) → (i : Instance) → is_positive (amount ((Folded (instance_of 1), full) ∷ []) (Folded i)) ≡ true → Q i
only_box Q q i e = go (same_resource (Folded i) (Folded (instance_of 1))) refl e
  where
    is : (i j : Instance) → ◌≡◌ {A = Resource} (Folded i) (Folded j) → j ≡ i
    is i j e = cc

    go : (b : Bool) → same_resource (Folded i) (Folded (instance_of 1)) ≡ b → is_positive (cond b (sum full none) none) ≡ true → Q i
    go true e z = subst Q (is i (instance_of 1) (resource_is (Folded i) (Folded (instance_of 1)) (tt, tt) e)) q
    go false e z = cc

pub holds_a_box : (z : ℤ) → HoldsFirmly boxes (IsProper boxes P) (precondition_of getter) (holding z)
holds_a_box z = record {
  given = (0, _, refl, refl);
  rigid = (tt, tt);
  good = only_box (λ i. IsProper boxes P (holding z).heap i × IsGrounded boxes (holding z).heap i) (proper_box (holding z).heap, (1, _, refl));
}

pub its_tree : (z : ℤ) → IsAskingTreeOf boxes (holding z) (precondition_of getter) (IntLeaf z)
its_tree z = (1, refl)

pub get_fits : (z : ℤ) → Fits boxes (holding z) getter.body (IntValue z)
get_fits z = (1, go)
  where
    go : (m : ℕ) → 1 ≤ m → fit_by boxes m (holding z) getter.body ≡ Ok (IntValue z)
    go zero le = absurd (none_below le)
      where
        none_below : 1 ≤ 0 → ⊥
        none_below le = omega arith
    go (suc m) le = refl

pub whole_number : (z : ℤ) (w : Value) → LooksLike (IntValue z) w → IntValue z ≡ w
whole_number z (IntValue y) e = cc
whole_number z (BoolValue y) e = cc
whole_number z (RefValue y) e = cc
whole_number z (PermValue y) e = cc

seen : (z : ℤ) → Sees (holding z) (holding z)
seen z = record { store = refl; heap = refl }

pub get_is_determined : (z : ℤ) (t : State) → t.store ≡ x_is_one → IsAskingTreeOf boxes t (precondition_of getter) (IntLeaf z) → IsValueOf boxes get (RefValue 1 ∷ []) t (IntValue z)
get_is_determined z t store there =
    let r = agreeing.determined boxes (IsProper boxes P) boxes_are_good functions_are_good boxes_covered get getter refl (RefValue 1 ∷ []) (holding z) (holding z) t (IntValue z) (IntLeaf z) (seen z) (holds_a_box z) refl store (its_tree z) there (2, refl) in
    subst (IsValueOf boxes get (RefValue 1 ∷ []) t) (sym (whole_number z r.0 r.2)) r.1

pub twice_fits : (z : ℤ) → FitsFirmly boxes (holding z) doubler.body (IntValue (z +ℤ z))
twice_fits z = (2, refl)

-- its promise is kept, so it may be applied
pub twice_is_allowed : (z : ℤ) → firm_application boxes (firmly boxes 3) twice (RefValue 1 ∷ []) (holding z) ≡ Some (IntValue (z +ℤ z))
twice_is_allowed z = ap (λ (b : Bool). to_option (guard here b >>= λ _. Ok (IntValue (z +ℤ z)))) (int_same (z +ℤ z))

pub twice_is_determined : (z : ℤ) (t : State) → t.store ≡ x_is_one → IsAskingTreeOf boxes t (precondition_of doubler) (IntLeaf z) → IsValueOf boxes twice (RefValue 1 ∷ []) t (IntValue (z +ℤ z))
twice_is_determined z t store there =
    let r = agreeing.determined boxes (IsProper boxes P) boxes_are_good functions_are_good boxes_covered twice doubler refl (RefValue 1 ∷ []) (holding z) (holding z) t (IntValue (z +ℤ z)) (IntLeaf z) (seen z) (holds_a_box z) refl store (its_tree z) there (twice_fits z) in
    subst (IsValueOf boxes twice (RefValue 1 ∷ []) t) (sym (whole_number (z +ℤ z) r.0 r.2)) r.1

-- Nothing is held

pub peek_holds_nothing : (z : ℤ) → HoldsFirmly boxes (IsProper boxes P) (precondition_of peeker) (bereft z)
peek_holds_nothing z = record { given = (0, _, refl, refl); rigid = (tt, tt); good = λ i e. nothing e }
  where
    nothing : {R : Type 0} → is_positive none ≡ true → R
    nothing e = cc

-- the predicate reads what it doesn't give: each heap has one tree, and something else is inside
pub loose_tree : (r : ℕ) → IsTree looses (leads_to r) (instance_of 1) (IntLeaf (pos 0))
loose_tree r = (1, go (nat_eq r 1))
  where
    go : (b : Bool) → Some (leaf (cond ((b && false) && false) (RefValue r) (IntValue (pos 0)))) ≡ Some (IntLeaf (pos 0))
    go true = refl
    go false = refl

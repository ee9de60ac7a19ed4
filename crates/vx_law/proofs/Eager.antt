-- A typed function whose precondition can be taken where it doesn't start: its walk doesn't pass.
use Rattle.std.proofs.Common.{◌≡◌, inl, inr, ℕ, zero, suc, Bool, true, false, cond, List, [], ◌∷◌, Option, Some, None, slice_get, ◌<◌, refl, subst, arith, le_refl}
use Rattle.std.specs.Prelude.{Ok, Err, Contains}
use Rattle.std.proofs.lemmas.Option.{same_Some}
use Rattle.vx_frac.specs.Fractions.{none, full, at_most, is_positive, over, sum}
use Rattle.vx_ast.specs.declared.Place.{Place}
use Rattle.vx_ast.specs.declared.ValueType.TheVariants.{Int}
use Rattle.vx_ast.specs.Syntax.{Name, same_name, Member, Predicate, Function, Method, Kind, IsField, IsFunction, member_named, predicate_in, predicate_named, function_in, function_named, method_in, method_named, joined, Equal}
use Rattle.vx_ast.specs.Mentions.{mentioned_by_function}
use Rattle.vx_ast.specs.Apart.{Stands, entered_by, entered_by_measure}
use Rattle.vx_types.specs.Typing.{IsTypedFunction, number, variable, part, operates, reads}
use Rattle.vx_terms.specs.Interpretations.{Each}
use Rattle.vx_types.specs.Premises.{HasConstantAmounts, IsTypedProgram}
use Rattle.vx_types.specs.Now.{SpeaksOfNow}
use Rattle.vx_types.specs.Closure.{itself}
use Rattle.vx_meaning.specs.Values.{Value, IntValue, BoolValue, RefValue, PermValue}
use Rattle.vx_meaning.specs.States.{State, Heap, At, HaveTypes, same_location, same_resource, bind, lost, with_store}
use Rattle.vx_meaning.specs.Flatten.{bare}
use Rattle.vx_meaning.specs.Consistent.{IsConsistent}
use Rattle.vx_meaning.specs.Fits.{Checked, fit_by, Takes}
use Rattle.vx_meaning.specs.Outcomes.{Ends, passes, refused, goes_on, is_over}
use Rattle.vx_meaning.specs.Give.{give}
use Rattle.vx_meaning.specs.Fails.{FunctionStarts}
use Rattle.vx_meaning.specs.Group.{ReachesBy}
use Rattle.vx_sound_preds.specs.Covered.{IsStocked}
use Rattle.vx_sound_preds.specs.Examples.{here, x, f}
use Rattle.vx_sound_funcs.specs.Told.{precondition_of}
use Rattle.vx_sound_funcs.specs.Examples.{field_of}
use Rattle.vx_sound_funcs.proofs.Steps.{nothing_some}
use Rattle.vx_law.specs.Allowed.{TakenIsAllowed}
use Rattle.vx_law.specs.EagerExamples.{eager, is_nought, reader, eagers, held}

-- The members, by their names

no_predicate : {R : Type 0} (y : Name) (d : Predicate) → predicate_named eagers y ≡ Some d → R
no_predicate y d e = go (same_name y f) (same_name y eager) e
  where
    go : {R : Type 0} (a b : Bool) → predicate_in (elim a as (λ z. Option Kind) [ true ↦ Some (IsField Int) | false ↦ elim b as (λ z. Option Kind) [ true ↦ Some (IsFunction reader) | false ↦ None ] ]) ≡ Some d → R
    go true b e = nothing_some d e
    go false true e = nothing_some d e
    go false false e = nothing_some d e

no_method : {R : Type 0} (y : Name) (m : Method) → method_named eagers y ≡ Some m → R
no_method y m e = go (same_name y f) (same_name y eager) e
  where
    go : {R : Type 0} (a b : Bool) → method_in (elim a as (λ z. Option Kind) [ true ↦ Some (IsField Int) | false ↦ elim b as (λ z. Option Kind) [ true ↦ Some (IsFunction reader) | false ↦ None ] ]) ≡ Some m → R
    go true b e = nothing_some m e
    go false true e = nothing_some m e
    go false false e = nothing_some m e

each_function : (Q : Function → Type 0) → Q reader → (y : Name) (g : Function) → function_named eagers y ≡ Some g → Q g
each_function Q q y g e = go (same_name y f) (same_name y eager) e
  where
    go : (a b : Bool) → function_in (elim a as (λ z. Option Kind) [ true ↦ Some (IsField Int) | false ↦ elim b as (λ z. Option Kind) [ true ↦ Some (IsFunction reader) | false ↦ None ] ]) ≡ Some g → Q g
    go true b e = nothing_some g e
    go false true e = subst Q (same_Some reader g e) q
    go false false e = nothing_some g e

same_member : (a b : Member) → Some a ≡ Some b → a ≡ b
same_member a b e = cc

names : (n : ℕ) (m : Member) → slice_get eagers n ≡ Some m → member_named eagers m.name ≡ Some m.kind
names zero m e = subst (λ (m : Member). member_named eagers m.name ≡ Some m.kind) (same_member (record { name = f; kind = IsField Int }) m e) refl
names (suc zero) m e = subst (λ (m : Member). member_named eagers m.name ≡ Some m.kind) (same_member (record { name = eager; kind = IsFunction reader }) m e) refl
names (suc (suc n)) m e = cc

one_positive : 0 < 1
one_positive = omega arith

reader_typed : IsTypedFunction eagers reader
reader_typed = record {
  names = (refl, tt);
  parameters = ((λ e. cc), tt);
  requires = (operates {op = Equal} {t = Int} tt (reads f refl (variable here x refl)) (number here 0), ((variable here x refl, (Int, refl), part here 1 1 one_positive), tt));
  ensures = tt;
  measure = tt;
  body = number here 0;
}

pub eagers_typed : IsTypedProgram eagers
eagers_typed = record {
  names = names;
  predicates = λ y d e. no_predicate y d e;
  functions = each_function (IsTypedFunction eagers) reader_typed;
  methods = λ y m e. no_method y m e;
  bodies = λ y d a e body. no_predicate y d e;
  now = λ y d a e body. no_predicate y d e;
  preconditions = each_function (λ g. Each HasConstantAmounts g.requires) (tt, ((over 1 1, (λ p ap s. refl), refl), tt));
  functions_now = each_function SpeaksOfNow record { requires = ((tt, tt), ((tt, tt), tt)); ensures = tt; measure = tt; body = tt };
  apart = record {
    measure = λ y g z e st. absurd (each_function (λ g. Stands z (entered_by_measure g.decreases) → ⊥) (λ s. s) y g e st);
    body = λ y d z e st. no_predicate y d e;
    precondition = λ y g z e st r. each_function (λ g. Stands z (entered_by (joined g.place g.requires)) → ⊥) (λ s. s) y g e st;
    unfolding_body = λ y d z e st r. no_predicate y d e;
  };
}

-- It never starts

failed : {R : Type 0} (at : Place) (v : Value) → ◌≡◌ {A = Checked Value} (Err at) (Ok v) → R
failed at v e = cc

not_read : (n : ℕ) (vs : List Value) → HaveTypes reader.parameters vs → (h : Heap) (v : Value) → fit_by eagers n (bare (bind reader.parameters vs) h) is_nought ≡ Ok v → ⊥
not_read n [] t h v e = t
not_read n (RefValue r ∷ []) t h v e = failed here v e
not_read n (IntValue z ∷ []) t h v e = failed here v e
not_read n (BoolValue b ∷ []) t h v e = failed here v e
not_read n (PermValue q ∷ []) t h v e = failed here v e
not_read n (w ∷ u ∷ vs) t h v e = t.1

not_given : (vs : List Value) → HaveTypes reader.parameters vs → (h : Heap) (t : State) → give eagers (IsConsistent eagers) full (precondition_of reader) (bare (bind reader.parameters vs) h) (Ends t) → ⊥
not_given vs types h t (goes_on m (passes v ev r) rest) = not_read ev.0 vs types h v (ev.1 ev.0 (le_refl ev.0))
not_given vs types h t (goes_on m (refused at ev r) rest) = r
not_given vs types h t (is_over o first) = o

pub never_starts : (s : State) → FunctionStarts eagers reader s → ⊥
never_starts s k = not_given k.0 k.1 k.2.0 k.2.1 k.2.2

-- Where 1.f is held its precondition can be taken

held_can_be : IsConsistent eagers held
held_can_be = record { supported = record { grounded = λ i e. not_positive e; null = λ n g. refl }; bounded = λ n l. bounded (same_location l (field_of 1)) }
  where
    not_positive : {R : Type 0} → is_positive none ≡ true → R
    not_positive e = cc

    bounded : (b : Bool) → at_most (cond b (sum full none) none) full ≡ true
    bounded true = refl
    bounded false = refl

held_stocked : IsStocked eagers eager held.holdings
held_stocked = record { instances = tt; debts = λ r. go (same_resource r (At (field_of 1))) }
  where
    go : (b : Bool) → at_most none (cond b (sum full none) none) ≡ true
    go true = refl
    go false = refl

taken : Takes eagers (with_store (bind reader.parameters (RefValue 1 ∷ [])) held) (precondition_of reader) full (lost (At (field_of 1)) full held.holdings)
taken = (0, λ m le. refl)

-- It leads to no function

none_there : (y : Name) → Contains [] y → ⊥
none_there y (k, l, e) = no_number k l
  where
    no_number : (k : ℕ) → k < 0 → ⊥
    no_number k l = omega (arith, l)

no_way : (n : ℕ) (y : Name) → ReachesBy eagers n eager y → ⊥
no_way zero y r = r
no_way (suc n) y (inl (d, named, c)) = each_function (λ g. Contains (mentioned_by_function g) y → ⊥) (none_there y) eager d named c
no_way (suc n) y (inr (z, (d, named, c), r)) = each_function (λ g. Contains (mentioned_by_function g) z → ⊥) (none_there z) eager d named c

pub not_allowed : TakenIsAllowed eagers eager → ⊥
not_allowed law =
    let k = law eager reader itself refl (λ f' g' leads named r apart. absurd (no_way r.0 f' r.1)) (RefValue 1 ∷ []) (refl, tt) held held_can_be held_stocked (lost (At (field_of 1)) full held.holdings) taken in
    let start = k.0 in
    never_starts start.state start.starts

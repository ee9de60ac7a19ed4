-- Programs with a field and a predicate: which are typed, whose bodies are good, and what is covered in them.
use Rattle.std.proofs.Common.{◌≡◌, ◌⊎◌, inl, inr, ◌<◌, ℕ, zero, suc, Bool, true, false, [], ◌∷◌, Option, Some, None, slice_get, refl, sym, ◌∙◌, ap, subst, arith, true≢false}
use Rattle.std.specs.Prelude.{unwrap_or}
use Rattle.vx_frac.specs.Fractions.{Fraction, none, at_most, lowest, is_positive, difference, over}
use Rattle.vx_ast.specs.declared.ValueType.{ValueType}
use Rattle.vx_ast.specs.declared.ValueType.TheVariants as type
use Rattle.vx_ast.specs.Syntax.{Name, same_name, Member, Predicate, Function, Method, Assertion, Kind, IsField, IsPredicate, Equal, member_named, predicate_in, function_in, method_in, predicate_named}
use Rattle.vx_types.specs.Typing.{IsTypedPredicate, variable, part, number, nulls, nots, operates, reads, no_more, more}
use Rattle.vx_ast.specs.Apart.{Stands, entered_by_body}
use Rattle.vx_types.specs.Now.{SaysNow}
use Rattle.vx_types.specs.Premises.{HasConstantAmounts, IsTypedProgram}
use Rattle.vx_types.specs.Closure.{itself}
use Rattle.vx_meaning.specs.Values.{PermValue, RefValue}
use Rattle.vx_meaning.specs.States.{State, HaveTypes, At, amount}
use Rattle.vx_meaning.specs.Flatten.{bare, flat}
use Rattle.vx_meaning.specs.Fails.{Fails}
use Rattle.vx_sound.specs.Law.{Passes}
use Rattle.vx_sound_preds.specs.Bodies.{GoodBodies}
use Rattle.vx_sound_preds.specs.Covered.{Covered, IsProper, PredicatesPass}
use Rattle.vx_sound_preds.specs.Examples.{here, P, f, x, with_field, instance_of, cell, cell_body, cells, chain, chain_body, chains, loop, loop_body, loops, owe, owe_body, owes, remember, remember_body, remembers}
use Rattle.vx_sound_preds.proofs.Typed.{good_bodies}
use Rattle.vx_sound_preds.proofs.Kept.{bodies_covered}
use Rattle.vx_sound_preds.proofs.Soundness.{typed_predicate_sound}

module _ (t : ValueType) (d : Predicate) where
  -- what a name can stand for
  IsOne : Option Kind → Type 0
  IsOne o = (o ≡ Some (IsField t)) ⊎ (o ≡ Some (IsPredicate d)) ⊎ (o ≡ None)

  named : (y : Name) → IsOne (member_named (with_field t d) y)
  unfolding IsOne
  named y = go (same_name y f) (same_name y P)
    where
      go : (a b : Bool) → IsOne (elim a as (λ c. Option Kind) [ true ↦ Some (IsField t) | false ↦ elim b as (λ c. Option Kind) [ true ↦ Some (IsPredicate d) | false ↦ None ] ])
      go true b = inl refl
      go false true = inr (inl refl)
      go false false = inr (inr refl)

  -- what no kind that is there can be read as
  none_of : {A : Type 0} (read : Option Kind → Option A) (a : A) (o : Option Kind) → read (Some (IsField t)) ≡ None → read (Some (IsPredicate d)) ≡ None → read None ≡ None → IsOne o → read o ≡ Some a → ⊥
  unfolding IsOne
  none_of read a o e g h (inl k) is = clash a (sym e ∙ ap read (sym k) ∙ is)
    where
      clash : {A : Type 0} (a : A) → None ≡ Some a → ⊥
      clash a e = cc
  none_of read a o e g h (inr (inl k)) is = clash a (sym g ∙ ap read (sym k) ∙ is)
    where
      clash : {A : Type 0} (a : A) → None ≡ Some a → ⊥
      clash a e = cc
  none_of read a o e g h (inr (inr k)) is = clash a (sym h ∙ ap read (sym k) ∙ is)
    where
      clash : {A : Type 0} (a : A) → None ≡ Some a → ⊥
      clash a e = cc

  no_function : (y : Name) (g : Function) → function_in (member_named (with_field t d) y) ≡ Some g → ⊥
  no_function y g e = none_of function_in g (member_named (with_field t d) y) refl refl refl (named y) e

  no_method : (y : Name) (m : Method) → method_in (member_named (with_field t d) y) ≡ Some m → ⊥
  no_method y m e = none_of method_in m (member_named (with_field t d) y) refl refl refl (named y) e

  one_predicate : (o : Option Kind) (e : Predicate) → IsOne o → predicate_in o ≡ Some e → d ≡ e
  unfolding IsOne
  one_predicate o e (inl k) is = clash (ap predicate_in (sym k) ∙ is)
    where
      clash : None ≡ Some e → d ≡ e
      clash h = cc
  one_predicate o e (inr (inl k)) is = same d e (ap predicate_in (sym k) ∙ is)
    where
      same : (a b : Predicate) → Some a ≡ Some b → a ≡ b
      same a b h = cc
  one_predicate o e (inr (inr k)) is = clash (ap predicate_in (sym k) ∙ is)
    where
      clash : None ≡ Some e → d ≡ e
      clash h = cc

  the_predicate : (y : Name) (e : Predicate) → predicate_named (with_field t d) y ≡ Some e → d ≡ e
  the_predicate y e is = one_predicate (member_named (with_field t d) y) e (named y) is

  same_member : (a b : Member) → Some a ≡ Some b → a ≡ b
  same_member a b e = cc

  found : (n : ℕ) (k : Member) → slice_get (with_field t d) n ≡ Some k → member_named (with_field t d) k.name ≡ Some k.kind
  found zero k at = subst (λ (k : Member). member_named (with_field t d) k.name ≡ Some k.kind) (same_member (record { name = f; kind = IsField t }) k at) refl
  found (suc zero) k at = subst (λ (k : Member). member_named (with_field t d) k.name ≡ Some k.kind) (same_member (record { name = P; kind = IsPredicate d }) k at) refl
  found (suc (suc n)) k at = cc

  -- what holds of the body holds of each predicate's
  each_body : (Q : Assertion → Type 0) (a : Assertion) → d.body ≡ Some a → Q a → (y : Name) (e : Predicate) (b : Assertion) → predicate_named (with_field t d) y ≡ Some e → e.body ≡ Some b → Q b
  each_body Q a is k y e b named body = subst Q (same a b (sym is ∙ ap (λ (e : Predicate). e.body) (the_predicate y e named) ∙ body)) k
    where
      same : (a b : Assertion) → Some a ≡ Some b → a ≡ b
      same a b h = cc

  -- a predicate with a body that enters nothing
  is_typed : IsTypedPredicate (with_field t d) d → (a : Assertion) → d.body ≡ Some a → HasConstantAmounts a → SaysNow a → entered_by_body d.body ≡ [] → IsTypedProgram (with_field t d)
  is_typed typed a is amounts now enters = record {
    names = found;
    predicates = λ y e h. subst (IsTypedPredicate (with_field t d)) (the_predicate y e h) typed;
    functions = λ y g e. absurd (no_function y g e);
    methods = λ y m e. absurd (no_method y m e);
    bodies = λ y e b h body. each_body HasConstantAmounts a is amounts y e b h body;
    now = λ y e b h body. each_body SaysNow a is now y e b h body;
    preconditions = λ y g e. absurd (no_function y g e);
    functions_now = λ y g e. absurd (no_function y g e);
    apart = record {
      measure = λ y g z e st. absurd (no_function y g e);
      body = λ y e z h st. absurd (enters_nothing y e z h st);
      precondition = λ y g z e st r. absurd (no_function y g e);
      unfolding_body = λ y e z h st r. enters_nothing y e z h st;
    };
  }
    where
      enters_nothing : (y : Name) (e : Predicate) (z : Name) → predicate_named (with_field t d) y ≡ Some e → Stands z (entered_by_body e.body) → ⊥
      enters_nothing y e z h st = subst (Stands z) (ap (λ (e : Predicate). entered_by_body e.body) (sym (the_predicate y e h)) ∙ enters) st

  -- and that passes its walk with no question
  passes : Passes (with_field t d) P (IsPredicate d) [] → PredicatesPass (with_field t d) P (λ y. [])
  passes k y e c h = subst (λ (e : Predicate). Passes (with_field t d) P (IsPredicate e) []) (the_predicate y e h) k

one_positive : 0 < 1
one_positive = omega arith

-- P(x: Ref) { acc(x.f) && x.f == 0 }

pub cells_typed : IsTypedProgram cells
cells_typed = is_typed type.Int cell record {
  names = (refl, tt);
  parameters = ((λ e. cc), tt);
  body = (
    (variable here x refl, (type.Int, refl), part here 1 1 one_positive),
    operates {op = Equal} {t = type.Int} tt (reads f refl (variable here x refl)) (number here 0),
  );
} cell_body refl ((over 1 1, (λ p ap s. refl), refl), tt) ((tt, tt), (tt, tt)) refl

pub cells_are_good : GoodBodies cells
cells_are_good = good_bodies cells cells_typed

cell_passes : Passes cells P (IsPredicate cell) []
unfolding lowest
cell_passes = (refl, tt)

pub cells_never_fail : Fails cells P (IsPredicate cell) → ⊥
cells_never_fail = typed_predicate_sound cells P cell [] cells_typed refl cell_passes

pub cells_covered : Covered cells (IsProper cells P)
cells_covered = bodies_covered cells P (λ y. []) cells_typed (passes type.Int cell cell_passes)

-- P(x: Ref) { acc(x.f) && (!(x.f == null) ==> P(x.f)) }

pub chains_typed : IsTypedProgram chains
chains_typed = is_typed type.Ref chain record {
  names = (refl, tt);
  parameters = ((λ e. cc), tt);
  body = (
    (variable here x refl, (type.Ref, refl), part here 1 1 one_positive),
    (
      nots (operates {op = Equal} {t = type.Ref} tt (reads f refl (variable here x refl)) (nulls here)),
      ((chain, refl, more (reads f refl (variable here x refl)) no_more), part here 1 1 one_positive),
    ),
  );
} chain_body refl ((over 1 1, (λ p ap s. refl), refl), (over 1 1, (λ p ap s. refl), refl)) ((tt, tt), ((tt, tt), ((tt, tt), tt))) refl

pub chains_are_good : GoodBodies chains
chains_are_good = good_bodies chains chains_typed

chain_passes : Passes chains P (IsPredicate chain) []
unfolding lowest
chain_passes = (refl, tt)

pub chains_never_fail : Fails chains P (IsPredicate chain) → ⊥
chains_never_fail = typed_predicate_sound chains P chain [] chains_typed refl chain_passes

pub chains_covered : Covered chains (IsProper chains P)
chains_covered = bodies_covered chains P (λ y. []) chains_typed (passes type.Ref chain chain_passes)

-- with the empty heap 1.f is null, and the chain from 1 ends there
pub proper_chain : IsProper chains P [] (instance_of 1)
proper_chain = record {
  seen = itself;
  typed = λ d e. subst (λ (d : Predicate). HaveTypes d.parameters (RefValue 1 ∷ [])) (the_predicate type.Ref chain P d e) (refl, tt);
  grounded = (1, _, refl);
  null = nothing;
}
  where
    nothing : (n : ℕ) (g : Name) → at_most (amount (unwrap_or (flat chains n [] (instance_of 1)) []) (At record { receiver = 0; field = g })) none ≡ true
    nothing zero g = refl
    nothing (suc n) g = refl

-- an amount of none, and one below none, are no amounts of a good body
amount_is : (a b : Fraction) → Some (PermValue a) ≡ Some (PermValue b) → is_positive b ≡ true → is_positive a ≡ true
amount_is a b e h = subst (λ (q : Fraction). is_positive q ≡ true) (same b a e) h
  where
    same : (b a : Fraction) → Some (PermValue a) ≡ Some (PermValue b) → b ≡ a
    same b a e = cc

anywhere : State
anywhere = bare [] []

pub loops_are_not : GoodBodies loops → ⊥
unfolding anywhere
loops_are_not good =
    let share = (good.plain P loop loop_body refl refl).1.1 in
    true≢false (sym (amount_is (over 0 1) share.amount (share.value_is anywhere) share.above))

pub owes_are_not : GoodBodies owes → ⊥
unfolding anywhere
owes_are_not good =
    let share = (good.plain P owe owe_body refl refl).1.1.0.1 in
    true≢false (sym (amount_is (difference (over 0 1) (over 1 1)) share.amount (share.value_is anywhere) share.above))

-- P(x: Ref) { old(x) == x }

pub remembers_is_not : GoodBodies remembers → ⊥
remembers_is_not good = (good.plain P remember remember_body refl refl).0

-- A run in which an instance is unfolded, and can't be folded again: a failing one, and its walk stops there.
use Rattle.std.proofs.Common.{◌≡◌, inl, ℕ, pos, ◌∙◌, zero, suc, Bool, true, false, cond, [], ◌∷◌, refl, sym, subst, true≢false}
use Rattle.vx_frac.specs.Fractions.{Fraction, full, none, over, sum, minus, product, at_most, is_positive, lowest}
use Rattle.vx_ast.specs.Syntax.{Name}
use Rattle.vx_meaning.specs.Values.{IntValue, BoolValue, RefValue}
use Rattle.vx_meaning.specs.States.{State, Store, Heap, Holdings, Location, Instance, At, Folded, same_resource, same_location}
use Rattle.vx_meaning.specs.Flatten.{IsGrounded}
use Rattle.vx_meaning.specs.Consistent.{total, IsConsistent}
use Rattle.vx_meaning.specs.Outcomes.{passes, refused, goes_on, is_over}
use Rattle.vx_meaning.specs.Fails.{MethodFails, body}
use Rattle.vx_smt_meaning.specs.declared.reply.Reply.TheVariants.{Sat}
use Rattle.vx_rules.specs.Trees.{FoldCode, Failed, walk}
use Rattle.vx_rules.specs.Members.{rules, method_tree}
use Rattle.vx_sound.specs.Examples.{on_line}
use Rattle.vx_sound_preds.specs.Examples.{x, f, instance_of}
use Rattle.vx_sound_preds.specs.FoldExamples.{spoiling, spoils, spoilt}
use Rattle.vx_sound_preds.proofs.Grouped.{resource_is}

-- The walk stops at the fold.

pub spoils_stops : (walk (method_tree spoilt spoils) (Sat ∷ [])).ending ≡ Failed (on_line 5) FoldCode Sat
unfolding lowest rules
spoils_stops = refl

-- the instance of 1, and its location
abbrev of_one : Instance
of_one = instance_of 1

abbrev its_field : Location
its_field = record { receiver = 1; field = f }

-- what is held at first, and once the instance is unfolded
abbrev folded : Holdings
folded = (Folded of_one, product full full) ∷ []

abbrev unfolded : Holdings
unfolded = (At its_field, product full full) ∷ (Folded of_one, minus full) ∷ folded

abbrev one : Store
one = (x, RefValue 1) ∷ []

abbrev holding : Store → Heap → Holdings → Heap → Holdings → State
holding xs h hs g gs = record { store = xs; heap = h; holdings = hs; old_heap = g; old_holdings = gs }

-- any instance that is the one of 1 is grounded, and of others nothing is held
grounded : (i : Instance) (b : Bool) → same_resource (Folded i) (Folded of_one) ≡ b → (a : Bool → Fraction) → is_positive (a false) ≡ false → is_positive (a b) ≡ true → IsGrounded spoilt [] i
grounded i true e a z k = subst (IsGrounded spoilt []) (sym (same i of_one (resource_is (Folded i) (Folded of_one) (tt, tt) e))) (1, _, refl)
  where
    same : (i j : Instance) → Folded i ≡ Folded j → i ≡ j
    same i j e = cc
grounded i false e a z k = absurd (true≢false (sym k ∙ z))

-- one more amount, where it is of the same
abbrev layer : Bool → Fraction → Fraction → Fraction
layer b a rest = cond b (sum a rest) rest

folded_can_be : (xs : Store) (g : Heap) (gs : Holdings) → IsConsistent spoilt (holding xs [] folded g gs)
folded_can_be xs g gs = record {
  supported = record {
    grounded = λ i k. grounded i (same_resource (Folded i) (Folded of_one)) refl (λ b. layer b (product full full) none) refl k;
    null = null;
  };
  bounded = bounded;
}
  where
    null : (n : ℕ) (f : Name) → at_most (total spoilt n [] folded record { receiver = 0; field = f }) none ≡ true
    null zero f = refl
    null (suc n) f = refl

    at_most_all : (b : Bool) → at_most (layer b (product (product full full) (over 1 1)) none) full ≡ true
    at_most_all true = refl
    at_most_all false = refl

    bounded : (n : ℕ) (l : Location) → at_most (total spoilt n [] folded l) full ≡ true
    bounded zero l = refl
    bounded (suc n) l = at_most_all (same_location l its_field)

unfolded_can_be : (xs : Store) (g : Heap) (gs : Holdings) → IsConsistent spoilt (holding xs [] unfolded g gs)
unfolded_can_be xs g gs = record {
  supported = record {
    grounded = λ i k. grounded i (same_resource (Folded i) (Folded of_one)) refl (λ b. layer b (minus full) (layer b (product full full) none)) refl k;
    null = null;
  };
  bounded = bounded;
}
  where
    null : (n : ℕ) (f : Name) → at_most (total spoilt n [] unfolded record { receiver = 0; field = f }) none ≡ true
    null zero f = refl
    null (suc n) f = refl

    at_most_all : (b : Bool) → at_most (layer b (product full full) none) full ≡ true
    at_most_all true = refl
    at_most_all false = refl

    inner_too : (b : Bool) → at_most (layer b (product full full) (layer b (product (minus full) (over 1 1)) (layer b (product (product full full) (over 1 1)) none))) full ≡ true
    inner_too true = refl
    inner_too false = refl

    bounded : (n : ℕ) (l : Location) → at_most (total spoilt n [] unfolded l) full ≡ true
    bounded zero l = at_most_all (same_location l its_field)
    bounded (suc n) l = inner_too (same_location l its_field)

start : State
start = holding one [] folded [] folded

opened : State
opened = holding one [] unfolded [] folded

spoilt_state : State
spoilt_state = holding one ((its_field, IntValue (pos 1)) ∷ []) unfolded [] folded

pub spoils_fails : MethodFails spoilt spoils (on_line 5)
unfolding start opened spoilt_state
spoils_fails =
    body start spoiling
    (RefValue 1 ∷ [], [], (refl, tt), tt, ([], holding one [] folded [] [], passes (Folded of_one, over 1 1) (0, λ n le. refl) (inl (folded_can_be one [] [], refl)), refl))
    refl
    (goes_on opened (passes (of_one, over 1 1) (0, λ n le. refl) (passes tt (0, λ n le. refl) (goes_on opened
    (goes_on opened (passes (At its_field, over 1 1) (0, λ n le. refl) (inl (unfolded_can_be one [] folded, refl))) (passes (BoolValue true) (0, λ n le. refl) refl)) refl)))
    (goes_on spoilt_state (passes (its_field, IntValue (pos 1)) (0, λ n le. refl) refl)
    (is_over tt (passes (of_one, over 1 1) (0, λ n le. refl) (refused (on_line 5) (0, λ n le. refl) refl)))))

-- The failing runs of programs that start with a folded instance.
use Rattle.std.proofs.Common.{◌≡◌, ℕ, zero, suc, true, false, Bool, IsTrue, if◌then◌else◌, ◌&&◌, List, [], ◌∷◌, refl, sym, subst, inl}
use Rattle.vx_ast.specs.Syntax.{Name, Program, same_name}
use Rattle.vx_frac.specs.Fractions.{Fraction, full, none, sum, minus, product, is_positive, at_most}
use Rattle.vx_meaning.specs.Values.{Value, IntValue, BoolValue, RefValue, PermValue, same_values}
use Rattle.vx_meaning.specs.States.{State, Holdings, Location, Instance, At, Folded, amount, gained, lost, same_location}
use Rattle.vx_meaning.specs.Consistent.{total, IsConsistent}
use Rattle.vx_meaning.specs.Flatten.{IsGrounded}
use Rattle.vx_meaning.specs.Outcomes.{passes, refused, goes_on, is_over}
use Rattle.vx_meaning.specs.Fails.{MethodFails, body}
use Rattle.vx_rules.proofs.Names.{same_name_is}
use Rattle.vx_examples.specs.Words.{at}
use Rattle.vx_examples.specs.Predicates.{P_name, f, x, half_unfolded, half_unfolded_m, below_none, below_none_m}
use Rattle.vx_examples.specs.Scenes.{half}

abbrev one_f : Location
one_f = record { receiver = 1; field = f }

abbrev P_of : List Value → Instance
P_of vs = record { predicate = P_name; arguments = vs }

abbrev P_one : Instance
P_one = P_of (RefValue 1 ∷ [])

abbrev from : Holdings → State
from held = record { store = (x, RefValue 1) ∷ []; heap = []; holdings = held; old_heap = []; old_holdings = [] }

abbrev by : Bool → List Fraction → Fraction
by b [] = none
by b (q ∷ qs) = if b then sum q (by b qs) else by b qs

not_true : IsTrue false → ⊥
not_true h = cc

both_true : (a b : Bool) (q : Fraction) → IsTrue (is_positive (if a && b then q else none)) → (a ≡ true) × IsTrue b
both_true true true q h = (refl, refl)
both_true true false q h = absurd (not_true h)
both_true false b q h = absurd (not_true h)

-- where each instance of P is grounded, one of a positive amount is
grounded_by : (p : Program) (q : Fraction) → ((vs : List Value) → IsTrue (same_values vs (RefValue 1 ∷ [])) → IsGrounded p [] (P_of vs)) →
    (i : Instance) → IsTrue (is_positive (amount ((Folded P_one, q) ∷ []) (Folded i))) → IsGrounded p [] i
grounded_by p q each i h =
    let t = both_true (same_name i.predicate P_name) (same_values i.arguments (RefValue 1 ∷ [])) _ h in
    subst (λ n. IsGrounded p [] (record { predicate = n; arguments = i.arguments })) (sym (same_name_is i.predicate P_name t.0)) (each i.arguments t.1)

-- Half of an instance is unfolded, and all is written

second_false : (b : Bool) → IsTrue (b && false) → ⊥
second_false true h = cc
second_false false h = cc

one_argument : (vs : List Value) → IsTrue (same_values vs (RefValue 1 ∷ [])) → IsGrounded half_unfolded [] (P_of vs)
one_argument [] e = absurd (not_true e)
one_argument (RefValue r ∷ []) e = (1, (At record { receiver = r; field = f }, full) ∷ [], refl)
one_argument (IntValue z ∷ vs) e = absurd (not_true e)
one_argument (BoolValue b ∷ vs) e = absurd (not_true e)
one_argument (PermValue q ∷ vs) e = absurd (not_true e)
one_argument (RefValue r ∷ v ∷ vs) e = absurd (second_false _ e)

abbrev half_folded : State
half_folded = from ((Folded P_one, product full half) ∷ [])

folded_null : (n : ℕ) (g : Name) → IsTrue (at_most (total half_unfolded n [] half_folded.holdings record { receiver = 0; field = g }) none)
folded_null zero g = refl
folded_null (suc n) g = refl

half_inside : (b : Bool) → IsTrue (at_most (by b (product (product full half) full ∷ [])) full)
half_inside true = refl
half_inside false = refl

folded_bounded : (n : ℕ) (l : Location) → IsTrue (at_most (total half_unfolded n [] half_folded.holdings l) full)
folded_bounded zero l = refl
folded_bounded (suc n) l = half_inside (same_location l one_f)

half_folded_can_be : IsConsistent half_unfolded half_folded
half_folded_can_be = record { supported = record { grounded = grounded_by half_unfolded (product full half) one_argument; null = folded_null }; bounded = folded_bounded }

abbrev half_opened : Holdings
half_opened = gained (At one_f) (product half full) (lost (Folded P_one) half half_folded.holdings)

abbrev opened : State
opened = record (from half_opened) { old_holdings = half_folded.holdings }

opened_null : (n : ℕ) (g : Name) → IsTrue (at_most (total half_unfolded n [] half_opened record { receiver = 0; field = g }) none)
opened_null zero g = refl
opened_null (suc n) g = refl

half_outside : (b : Bool) → IsTrue (at_most (by b (product half full ∷ [])) full)
half_outside true = refl
half_outside false = refl

all_inside : (b : Bool) → IsTrue (at_most (by b (product half full ∷ product (minus half) full ∷ product (product full half) full ∷ [])) full)
all_inside true = refl
all_inside false = refl

opened_bounded : (n : ℕ) (l : Location) → IsTrue (at_most (total half_unfolded n [] half_opened l) full)
opened_bounded zero l = half_outside (same_location l one_f)
opened_bounded (suc n) l = all_inside (same_location l one_f)

none_left : (b : Bool) → IsTrue (is_positive (by b (minus half ∷ product full half ∷ []))) → ⊥
none_left true h = cc
none_left false h = cc

opened_can_be : IsConsistent half_unfolded opened
opened_can_be = record {
  supported = record { grounded = λ i h. absurd (none_left (same_name i.predicate P_name && same_values i.arguments (RefValue 1 ∷ [])) h); null = opened_null };
  bounded = opened_bounded;
}

pub failing_programs_half_unfolded : MethodFails half_unfolded half_unfolded_m (at 6 1)
failing_programs_half_unfolded =
    body (record half_folded { old_holdings = half_folded.holdings }) _
    (RefValue 1 ∷ [], [], (refl, tt), tt, ([], half_folded, passes (Folded P_one, half) (0, λ m le. refl) (inl (half_folded_can_be, refl)), refl))
    refl (goes_on opened
    (passes (P_one, half) (0, λ m le. refl) (passes tt (0, λ m le. refl)
    (goes_on opened (passes (At one_f, full) (0, λ m le. refl) (inl (opened_can_be, refl))) refl)))
    (is_over tt (refused (at 6 1) (0, λ m le. refl) refl)))

-- An amount below none

abbrev all_folded : State
all_folded = from ((Folded P_one, product full full) ∷ [])

no_body_null : (n : ℕ) (g : Name) → IsTrue (at_most (total below_none n [] all_folded.holdings record { receiver = 0; field = g }) none)
no_body_null zero g = refl
no_body_null (suc n) g = refl

no_body_bounded : (n : ℕ) (l : Location) → IsTrue (at_most (total below_none n [] all_folded.holdings l) full)
no_body_bounded zero l = refl
no_body_bounded (suc n) l = refl

all_folded_can_be : IsConsistent below_none all_folded
all_folded_can_be = record { supported = record { grounded = grounded_by below_none (product full full) (λ vs e. (1, [], refl)); null = no_body_null }; bounded = no_body_bounded }

pub failing_programs_below_none : MethodFails below_none below_none_m (at 4 8)
failing_programs_below_none =
    body (record all_folded { old_holdings = all_folded.holdings }) _
    (RefValue 1 ∷ [], [], (refl, tt), tt, ([], all_folded, passes (Folded P_one, full) (0, λ m le. refl) (inl (all_folded_can_be, refl)), refl))
    refl (is_over tt (refused (at 4 8) (0, λ m le. refl) refl))

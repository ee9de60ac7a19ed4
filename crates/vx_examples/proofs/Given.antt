-- What inhales give, branch by branch.
use Rattle.std.proofs.Common.{◌≡◌, ℕ, zero, suc, pos, true, false, Bool, IsTrue, if◌then◌else◌, ◌&&◌, List, [], ◌∷◌, refl, sym, subst, inl}
use Rattle.vx_ast.specs.Syntax.{Name, same_name}
use Rattle.vx_frac.specs.Fractions.{Fraction, full, none, sum, product, is_positive, at_most}
use Rattle.vx_meaning.specs.Values.{Value, IntValue, BoolValue, RefValue, PermValue, same_values}
use Rattle.vx_meaning.specs.States.{State, Location, Instance, At, Folded, amount, gained, same_location, with_holdings}
use Rattle.vx_meaning.specs.Consistent.{total, IsConsistent}
use Rattle.vx_meaning.specs.Flatten.{IsGrounded}
use Rattle.vx_meaning.specs.Outcomes.{Ends, FailsAt, Stops, passes, refused, goes_on, is_over}
use Rattle.vx_meaning.specs.Run.{run_all}
use Rattle.vx_rules.proofs.Names.{same_name_is}
use Rattle.vx_examples.specs.Words.{at}
use Rattle.vx_examples.specs.Cells.{f, cell, cells}
use Rattle.vx_examples.specs.Blocks.{inhales_framed, inhales_too_early, inhales_where, inhales_nowhere, inhales_by_choice, inhales_other_choice, inhales_unread_condition, inhales_instance, inhales_negative}
use Rattle.vx_examples.specs.Scenes.{half, x_f, a_cell, with_x_f, poor}
use Rattle.vx_examples.proofs.Checks.{alone}

abbrev by : Bool → List Fraction → Fraction
by b [] = none
by b (q ∷ qs) = if b then sum q (by b qs) else by b qs

not_true : IsTrue false → ⊥
not_true h = cc

half_at_most : (b : Bool) → IsTrue (at_most (by b (product full half ∷ [])) full)
half_at_most true = refl
half_at_most false = refl

abbrev half_given : State
half_given = with_holdings (gained (At x_f) (product full half) []) poor

half_can_be : IsConsistent cells half_given
half_can_be = record { supported = record { grounded = λ i h. absurd (not_true h); null = λ n g. refl }; bounded = λ n l. half_at_most (same_location l x_f) }

pub giving_framed : run_all cells inhales_framed poor (Ends (with_holdings (gained (At x_f) (product full half) []) poor))
giving_framed =
    alone _ (goes_on half_given (passes (At x_f, half) (0, λ m le. refl) (inl (half_can_be, refl))) (passes (BoolValue true) (0, λ m le. refl) refl))

pub giving_too_early : run_all cells inhales_too_early poor (FailsAt (at 1 10))
giving_too_early = alone _ (is_over tt (refused (at 1 10) (0, λ m le. refl) refl))

pub giving_condition_true : run_all cells inhales_where poor (Ends (with_holdings (gained (At x_f) (product full half) []) poor))
giving_condition_true = alone _ (passes (BoolValue true) (0, λ m le. refl) (passes (At x_f, half) (0, λ m le. refl) (inl (half_can_be, refl))))

pub giving_condition_false : run_all cells inhales_nowhere poor (Ends poor)
giving_condition_false = alone _ (passes (BoolValue false) (0, λ m le. refl) refl)

pub giving_first_choice : run_all cells inhales_by_choice poor (Ends (with_holdings (gained (At x_f) (product full half) []) poor))
giving_first_choice = alone _ (passes (BoolValue true) (0, λ m le. refl) (passes (At x_f, half) (0, λ m le. refl) (inl (half_can_be, refl))))

pub giving_other_choice : run_all cells inhales_other_choice poor Stops
giving_other_choice = alone _ (passes (BoolValue false) (0, λ m le. refl) (is_over tt (passes (BoolValue false) (0, λ m le. refl) tt)))

pub giving_unread_condition : run_all cells inhales_unread_condition poor (FailsAt (at 1 10))
giving_unread_condition = alone _ (refused (at 1 10) (0, λ m le. refl) refl)

pub giving_negative : run_all cells inhales_negative poor (FailsAt (at 1 10))
giving_negative = alone _ (refused (at 1 10) (0, λ m le. refl) refl)

-- An instance: those that are held are this one, which is grounded

abbrev cell_of : List Value → Instance
cell_of vs = record { predicate = cell; arguments = vs }

grounded_cell : (vs : List Value) → IsTrue (same_values vs (RefValue 1 ∷ [])) → IsGrounded cells (with_x_f (pos 5)) (cell_of vs)
grounded_cell [] e = absurd (not_true e)
grounded_cell (RefValue r ∷ []) e = (1, (At record { receiver = r; field = f }, full) ∷ [], refl)
grounded_cell (IntValue z ∷ vs) e = absurd (not_true e)
grounded_cell (BoolValue b ∷ vs) e = absurd (not_true e)
grounded_cell (PermValue q ∷ vs) e = absurd (not_true e)
grounded_cell (RefValue r ∷ v ∷ vs) e = absurd (second_false _ e) where
  second_false : (b : Bool) → IsTrue (b && false) → ⊥
  second_false true h = cc
  second_false false h = cc

both_true : (a b : Bool) (q : Fraction) → IsTrue (is_positive (if a && b then q else none)) → (a ≡ true) × IsTrue b
both_true true true q h = (refl, refl)
both_true true false q h = absurd (not_true h)
both_true false b q h = absurd (not_true h)

abbrev cell_given : State
cell_given = with_holdings (gained (Folded a_cell) (product full full) []) poor

cell_grounded : (i : Instance) → IsTrue (is_positive (amount cell_given.holdings (Folded i))) → IsGrounded cells cell_given.heap i
cell_grounded i h =
    let t = both_true (same_name i.predicate cell) (same_values i.arguments (RefValue 1 ∷ [])) _ h in
    subst (λ p. IsGrounded cells (with_x_f (pos 5)) (record { predicate = p; arguments = i.arguments })) (sym (same_name_is i.predicate cell t.0))
    (grounded_cell i.arguments t.1)

cell_null : (n : ℕ) (g : Name) → IsTrue (at_most (total cells n cell_given.heap cell_given.holdings record { receiver = 0; field = g }) none)
cell_null zero g = refl
cell_null (suc n) g = refl

nothing_at_most : (b : Bool) → IsTrue (at_most (by b []) full)
nothing_at_most b = refl

scaled_at_most : (b : Bool) → IsTrue (at_most (by b (product (product full full) full ∷ [])) full)
scaled_at_most true = refl
scaled_at_most false = refl

cell_bounded : (n : ℕ) (l : Location) → IsTrue (at_most (total cells n cell_given.heap cell_given.holdings l) full)
cell_bounded zero l = refl
cell_bounded (suc n) l = scaled_at_most (same_location l x_f)

pub giving_instance : run_all cells inhales_instance poor (Ends (with_holdings (gained (Folded a_cell) (product full full) []) poor))
giving_instance =
    alone _ (passes (Folded a_cell, full) (0, λ m le. refl) (inl (record { supported = record { grounded = cell_grounded; null = cell_null }; bounded = cell_bounded }, refl)))

-- Runs of blocks of statements.
use Rattle.std.proofs.Common.{◌≡◌, ℕ, pos, true, false, Bool, IsTrue, if◌then◌else◌, List, [], ◌∷◌, refl, sym, inl, inr, ◌⊎◌, Some, None, Option, ap, ◌∙◌}
use Rattle.vx_ast.specs.declared.Place.{Place}
use Rattle.vx_ast.specs.declared.ValueType.TheVariants.{Int}
use Rattle.vx_ast.specs.declared.ValueType.TheVariants as type
use Rattle.vx_frac.specs.Fractions.{Fraction, full, none, sum, minus, product, is_positive, at_most}
use Rattle.vx_meaning.specs.Values.{Value, IntValue, BoolValue, RefValue, type_of}
use Rattle.vx_meaning.specs.States.{State, Holdings, At, gained, lost, declare, lookup, same_location, value_at, with_heap, with_holdings}
use Rattle.vx_meaning.specs.Consistent.{IsConsistent, Changes}
use Rattle.vx_meaning.specs.Outcomes.{Ends, FailsAt, Stops, passes, refused}
use Rattle.vx_meaning.specs.Run.{run_all, IsFresh}
use Rattle.vx_examples.specs.Words.{at}
use Rattle.vx_examples.specs.Cells.{f, x, y, cells}
use Rattle.vx_examples.specs.Blocks.{z, nothing, declares, assigns, reads, writes, writes_null, creates, creates_bare, inhales, inhales_false, inhales_unread, assumes, assumes_false, assumes_unread, exhales, exhales_wrong, asserts, asserts_wrong, asserts_thrice, exhales_half}
use Rattle.vx_examples.specs.Scenes.{half, x_f, with_y, with_x_f, state, poor, owner, sharer}
use Rattle.vx_examples.proofs.Checks.{only_ok, only_err, single, alone}

-- Variables

pub variables_unchanged : run_all cells nothing poor (Ends poor)
variables_unchanged = refl

pub variables_declared : run_all cells declares poor (Ends (declare z (IntValue (pos 7)) poor))
variables_declared = alone _ (IntValue (pos 7), (refl, refl))

int_is_no_bool : Int ≡ type.Bool → ⊥
int_is_no_bool e = cc

bool_no_int : (b : Bool) (v : Value) → type_of v ≡ Int → v ≡ BoolValue b → ⊥
bool_no_int b v t e = int_is_no_bool (sym t ∙ ap type_of e)

some_value : (v w : Value) → (let o : Option Value = Some v in o) ≡ Some w → v ≡ w
some_value v w e = cc

pub variables_declared_typed : (t : State) (b : Bool) → run_all cells declares poor (Ends t) → lookup z t.store ≡ Some (BoolValue b) → ⊥
variables_declared_typed t b r e =
    let s = single _ r in bool_no_int b s.0 s.1.0 (some_value s.0 (BoolValue b) (sym (ap (λ u. lookup z u.store) s.1.1) ∙ e))

pub variables_assigned : run_all cells assigns poor (Ends (state (with_y (pos 1)) (with_x_f (pos 5)) []))
variables_assigned = alone _ (passes (IntValue (pos 1)) (0, λ m le. refl) refl)

pub variables_never_fails : (place : Place) → run_all cells assigns poor (FailsAt place) → ⊥
variables_never_fails place r = only_ok _ (IntValue (pos 1)) _ _ (λ n. refl) (single _ r)

pub variables_read : run_all cells reads owner (Ends (state (with_y (pos 5)) (with_x_f (pos 5)) owner.holdings))
variables_read = alone _ (passes (IntValue (pos 5)) (0, λ m le. refl) refl)

pub variables_unread : run_all cells reads poor (FailsAt (at 1 8))
variables_unread = alone _ (refused (at 1 8) (0, λ m le. refl) refl)

pub variables_never_ends : (t : State) → run_all cells reads poor (Ends t) → ⊥
variables_never_ends t r = only_err _ (at 1 8) _ _ (λ n. refl) (single _ r)

-- Fields

pub field_writes_written : run_all cells writes owner (Ends (with_heap ((x_f, IntValue (pos 1)) ∷ owner.heap) owner))
field_writes_written = alone _ (passes (x_f, IntValue (pos 1)) (0, λ m le. refl) refl)

pub field_writes_never_fails : (place : Place) → run_all cells writes owner (FailsAt place) → ⊥
field_writes_never_fails place r = only_ok _ (x_f, IntValue (pos 1)) _ _ (λ n. refl) (single _ r)

pub field_writes_half_fails : run_all cells writes sharer (FailsAt (at 1 3))
field_writes_half_fails = alone _ (refused (at 1 3) (0, λ m le. refl) refl)

pub field_writes_half_never_ends : (t : State) → run_all cells writes sharer (Ends t) → ⊥
field_writes_half_never_ends t r = only_err _ (at 1 3) _ _ (λ n. refl) (single _ r)

pub field_writes_null_fails : run_all cells writes_null owner (FailsAt (at 1 3))
field_writes_null_fails = alone _ (refused (at 1 3) (0, λ m le. refl) refl)

-- New references

nothing_held : IsTrue false → ⊥
nothing_held h = cc

stored : (b c : Bool) → (if b then Some (RefValue 1) else (if c then Some (IntValue (pos 0)) else None)) ≡ Some (RefValue 2) → ⊥
stored true c e = cc
stored false true e = cc
stored false false e = cc

two_is_fresh : IsFresh cells poor 2
two_is_fresh = record {
  not_null = λ e. cc;
  not_stored = λ v e. stored _ _ e;
  not_held = λ l h. absurd (nothing_held h.1);
  not_held_before = λ l h. absurd (nothing_held h.1);
  not_stored_around = tt;
  not_held_around = tt;
}

pub new_references_created : run_all cells creates poor (Ends (state ((x, RefValue 2) ∷ (y, IntValue (pos 0)) ∷ []) (with_x_f (pos 5)) ((At record { receiver = 2; field = f }, full) ∷ [])))
new_references_created = alone _ (poor.heap, ((λ l h. refl), (2, (two_is_fresh, refl))))

pub new_references_bare : run_all cells creates_bare poor (Ends (state ((x, RefValue 2) ∷ (y, IntValue (pos 0)) ∷ []) (with_x_f (pos 5)) []))
new_references_bare = alone _ (poor.heap, ((λ l h. refl), (2, (two_is_fresh, refl))))

store_ref : (r s : ℕ) → (let o : Option Value = Some (RefValue r) in o) ≡ Some (RefValue s) → r ≡ s
store_ref r s e = cc

pub new_references_not_null : (t : State) → run_all cells creates poor (Ends t) → lookup x t.store ≡ Some (RefValue 0) → ⊥
new_references_not_null t r e =
    let s = single _ r in s.1.1.1.0.not_null (store_ref s.1.1.0 0 (sym (ap (λ u. lookup x u.store) s.1.1.1.1) ∙ e))

pub new_references_not_stored : (t : State) → run_all cells creates poor (Ends t) → lookup x t.store ≡ Some (RefValue 1) → ⊥
new_references_not_stored t r e =
    let s = single _ r in s.1.1.1.0.not_stored x (ap (λ n. Some (RefValue n)) (sym (store_ref s.1.1.0 1 (sym (ap (λ u. lookup x u.store) s.1.1.1.1) ∙ e))))

-- What x.f has in all, by whether the location is x.f

abbrev amount_by : Bool → List Fraction → Fraction
amount_by b [] = none
amount_by b (q ∷ qs) = if b then sum q (amount_by b qs) else amount_by b qs

-- Inhale

abbrev whole_again : State
whole_again = with_holdings (gained (At x_f) (product full half) sharer.holdings) sharer

at_most_whole : (b : Bool) → IsTrue (at_most (amount_by b (product full half ∷ half ∷ [])) full)
at_most_whole true = refl
at_most_whole false = refl

halves_can_be : IsConsistent cells whole_again
halves_can_be = record {
  supported = record { grounded = λ i h. absurd (nothing_held h); null = λ n g. refl };
  bounded = λ n l. at_most_whole (same_location l x_f);
}

not_true : IsTrue false → ⊥
not_true h = cc

abbrev more_than_all : State
more_than_all = with_holdings (gained (At x_f) (product full half) owner.holdings) owner

more_cannot_be : IsConsistent cells more_than_all → ⊥
more_cannot_be c = not_true (c.bounded 0 x_f)

pub inhales_added : run_all cells inhales sharer (Ends (with_holdings (gained (At x_f) (product full half) sharer.holdings) sharer))
inhales_added = alone _ (passes (At x_f, half) (0, λ m le. refl) (inl (halves_can_be, refl)))

pub inhales_too_much_stops : run_all cells inhales owner Stops
inhales_too_much_stops = alone _ (passes (At x_f, half) (0, λ m le. refl) (inr (more_cannot_be, tt)))

never_too_much : (t : State) → (IsConsistent cells more_than_all × (t ≡ more_than_all)) ⊎ ((IsConsistent cells more_than_all → ⊥) × ⊥) → ⊥
never_too_much t (inl c) = more_cannot_be c.0
never_too_much t (inr c) = c.1

pub inhales_too_much_never_ends : (t : State) → run_all cells inhales owner (Ends t) → ⊥
inhales_too_much_never_ends t r = never_too_much t (only_ok _ (At x_f, half) _ _ (λ n. refl) (single _ r))

pub inhales_false_stops : run_all cells inhales_false poor Stops
inhales_false_stops = alone _ (passes (BoolValue false) (0, λ m le. refl) tt)

pub inhales_false_never_ends : (t : State) → run_all cells inhales_false poor (Ends t) → ⊥
inhales_false_never_ends t r = only_ok _ (BoolValue false) _ _ (λ n. refl) (single _ r)

pub inhales_true_ends : run_all cells inhales_unread owner (Ends owner)
inhales_true_ends = alone _ (passes (BoolValue true) (0, λ m le. refl) refl)

pub inhales_unread_fails : run_all cells inhales_unread poor (FailsAt (at 1 10))
inhales_unread_fails = alone _ (refused (at 1 10) (0, λ m le. refl) refl)

-- Assume

pub assumes_true_ends : run_all cells assumes poor (Ends poor)
assumes_true_ends = alone _ (passes (BoolValue true) (0, λ m le. refl) refl)

pub assumes_false_stops : run_all cells assumes_false poor Stops
assumes_false_stops = alone _ (passes (BoolValue false) (0, λ m le. refl) tt)

pub assumes_false_never_fails : (place : Place) → run_all cells assumes_false poor (FailsAt place) → ⊥
assumes_false_never_fails place r = only_ok _ (BoolValue false) _ _ (λ n. refl) (single _ r)

pub assumes_unread_fails : run_all cells assumes_unread poor (FailsAt (at 1 10))
assumes_unread_fails = alone _ (refused (at 1 10) (0, λ m le. refl) refl)

-- Exhale

abbrev nothing_left : Holdings
nothing_left = lost (At x_f) (product full full) owner.holdings

nothing_of : (b : Bool) → IsTrue (is_positive (amount_by b (minus (product full full) ∷ full ∷ []))) → ⊥
nothing_of true h = cc
nothing_of false h = cc

may_forget : Changes cells (with_holdings nothing_left owner) (with_x_f (pos 9))
may_forget l h = absurd (nothing_of (same_location l x_f) h.1)

pub exhales_forgotten : run_all cells exhales owner (Ends (state (with_y (pos 0)) (with_x_f (pos 9)) (lost (At x_f) (product full full) owner.holdings)))
exhales_forgotten = alone _ (passes nothing_left (0, λ m le. refl) (with_x_f (pos 9), (may_forget, refl)))

pub exhales_never_fails : (place : Place) → run_all cells exhales owner (FailsAt place) → ⊥
exhales_never_fails place r = let s = only_ok _ nothing_left _ _ (λ n. refl) (single _ r) in s.1.1

abbrev half_left : Holdings
half_left = lost (At x_f) (product full half) owner.holdings

kept : (t : State) → run_all cells exhales_half owner (Ends t) → value_at cells t.heap x_f ≡ IntValue (pos 5)
kept t r =
    let s = only_ok _ half_left _ _ (λ n. refl) (single _ r) in
    ap (λ u. value_at cells u.heap x_f) s.1.1 ∙ s.1.0 x_f (0, refl)

pub exhales_half_kept : (t : State) → run_all cells exhales_half owner (Ends t) → value_at cells t.heap x_f ≡ IntValue (pos 5)
exhales_half_kept = kept

pub exhales_wrong_fails : run_all cells exhales_wrong owner (FailsAt (at 1 22))
exhales_wrong_fails = alone _ (refused (at 1 22) (0, λ m le. refl) refl)

pub exhales_unheld_fails : run_all cells exhales poor (FailsAt (at 1 10))
exhales_unheld_fails = alone _ (refused (at 1 10) (0, λ m le. refl) refl)

pub exhales_unheld_never_ends : (t : State) → run_all cells exhales poor (Ends t) → ⊥
exhales_unheld_never_ends t r = only_err _ (at 1 10) _ _ (λ n. refl) (single _ r)

-- Assert

pub asserts_stays : run_all cells asserts owner (Ends owner)
asserts_stays = alone _ (passes (lost (At x_f) (product full half) owner.holdings) (0, λ m le. refl) refl)

pub asserts_never_fails : (place : Place) → run_all cells asserts owner (FailsAt place) → ⊥
asserts_never_fails place r = only_ok _ (lost (At x_f) (product full half) owner.holdings) _ _ (λ n. refl) (single _ r)

pub asserts_wrong_fails : run_all cells asserts_wrong poor (FailsAt (at 1 10))
asserts_wrong_fails = alone _ (refused (at 1 10) (0, λ m le. refl) refl)

pub asserts_thrice_fails : run_all cells asserts_thrice owner (FailsAt (at 1 44))
asserts_thrice_fails = alone _ (refused (at 1 44) (0, λ m le. refl) refl)

pub asserts_thrice_never_ends : (t : State) → run_all cells asserts_thrice owner (Ends t) → ⊥
asserts_thrice_never_ends t r = only_err _ (at 1 44) _ _ (λ n. refl) (single _ r)

-- Runs of folds and unfolds, conditions, sequences, loops and calls.
use Rattle.std.proofs.Common.{ℕ, zero, suc, pos, true, false, Bool, IsTrue, if◌then◌else◌, List, [], ◌∷◌, refl, inl, inr}
use Rattle.vx_ast.specs.declared.Place.{Place}
use Rattle.vx_frac.specs.Fractions.{Fraction, full, none, sum, minus, product, is_positive, at_most}
use Rattle.vx_meaning.specs.Values.{IntValue, BoolValue, RefValue}
use Rattle.vx_meaning.specs.States.{State, Holdings, Location, At, Folded, gained, lost, same_location, same_resource, with_holdings}
use Rattle.vx_meaning.specs.Consistent.{IsConsistent, total}
use Rattle.vx_meaning.specs.Outcomes.{Outcome, Ends, FailsAt, Stops, passes, refused, goes_on, is_over}
use Rattle.vx_meaning.specs.Run.{run_all}
use Rattle.vx_examples.specs.Words.{at}
use Rattle.vx_examples.specs.Cells.{x, y, hidden, cells}
use Rattle.vx_examples.specs.Blocks.{z, calls, calls_never, calls_unframed, folds, folds_none, folds_hidden, unfolds, unfolds_none, chooses, chooses_other, chooses_unread, declares_within, loops, loops_unkept, loops_wrong, loops_unread, fails_then_more, goes_on as goes_further, stops_then_more}
use Rattle.vx_examples.specs.Scenes.{x_f, a_cell, with_y, with_x_f, state, poor, owner, sharer, folder}
use Rattle.vx_examples.proofs.Checks.{only_ok, only_err, single, alone}

-- Fold

abbrev without_x_f : Holdings
without_x_f = lost (At x_f) (product full full) owner.holdings

pub folding_exchanged : run_all cells folds owner (Ends (with_holdings (gained (Folded a_cell) full (lost (At x_f) (product full full) owner.holdings)) owner))
folding_exchanged = alone _ (passes (a_cell, full) (0, λ m le. refl) (passes without_x_f (0, λ m le. refl) refl))

pub folding_never_fails : (place : Place) → run_all cells folds owner (FailsAt place) → ⊥
folding_never_fails place r =
    only_ok _ without_x_f _ _ (λ n. refl) (only_ok _ (a_cell, full) _ _ (λ n. refl) (single _ r))

pub folding_unheld_fails : run_all cells folds sharer (FailsAt (at 1 3))
folding_unheld_fails = alone _ (passes (a_cell, full) (0, λ m le. refl) (refused (at 1 3) (0, λ m le. refl) refl))

pub folding_unheld_never_ends : (t : State) → run_all cells folds sharer (Ends t) → ⊥
folding_unheld_never_ends t r =
    only_err _ (at 1 3) _ _ (λ n. refl) (only_ok _ (a_cell, full) _ _ (λ n. refl) (single _ r))

pub folding_none_fails : run_all cells folds_none owner (FailsAt (at 1 3))
folding_none_fails = alone _ (refused (at 1 3) (0, λ m le. refl) refl)

pub folding_no_body : (o : Outcome) → run_all cells folds_hidden owner o → ⊥
folding_no_body o r = only_ok _ (record { predicate = hidden; arguments = RefValue 1 ∷ [] }, full) _ _ (λ n. refl) (single o r)

-- Unfold

abbrev opened : State
opened = with_holdings (gained (At x_f) (product full full) (lost (Folded a_cell) full folder.holdings)) folder

nothing_of : (b : Bool) → IsTrue (is_positive (if b then sum (minus full) (if b then sum full none else none) else (if b then sum full none else none))) → ⊥
nothing_of true h = cc
nothing_of false h = cc

abbrev in_all : Bool → List Fraction → Fraction
in_all b [] = none
in_all b (q ∷ qs) = if b then sum q (in_all b qs) else in_all b qs

at_most_whole : (b : Bool) → IsTrue (at_most (in_all b (product full full ∷ product (minus full) full ∷ product full full ∷ [])) full)
at_most_whole true = refl
at_most_whole false = refl

at_most_given : (b : Bool) → IsTrue (at_most (in_all b (product full full ∷ [])) full)
at_most_given true = refl
at_most_given false = refl

opened_null : (n : ℕ) (g : List ℕ) → IsTrue (at_most (total cells n opened.heap opened.holdings record { receiver = 0; field = g }) none)
opened_null zero g = refl
opened_null (suc n) g = refl

opened_bounded : (n : ℕ) (l : Location) → IsTrue (at_most (total cells n opened.heap opened.holdings l) full)
opened_bounded zero l = at_most_given (same_location l x_f)
opened_bounded (suc n) l = at_most_whole (same_location l x_f)

opened_can_be : IsConsistent cells opened
opened_can_be = record {
  supported = record { grounded = λ i h. absurd (nothing_of (same_resource (Folded i) (Folded a_cell)) h); null = opened_null };
  bounded = opened_bounded;
}

pub unfolding_exchanged : run_all cells unfolds folder (Ends (with_holdings (gained (At x_f) (product full full) (lost (Folded a_cell) full folder.holdings)) folder))
unfolding_exchanged =
    alone _ (passes (a_cell, full) (0, λ m le. refl) (passes tt (0, λ m le. refl)
    (goes_on (record opened { store = (x, RefValue 1) ∷ [] }) (passes (At x_f, full) (0, λ m le. refl) (inl (bound_can_be, refl))) refl))) where
      bound_can_be : IsConsistent cells (record opened { store = (x, RefValue 1) ∷ [] })
      bound_can_be = record { supported = record { grounded = opened_can_be.supported.grounded; null = opened_null }; bounded = opened_bounded }

pub unfolding_unheld_fails : run_all cells unfolds owner (FailsAt (at 1 3))
unfolding_unheld_fails = alone _ (passes (a_cell, full) (0, λ m le. refl) (refused (at 1 3) (0, λ m le. refl) refl))

pub unfolding_unheld_never_ends : (t : State) → run_all cells unfolds owner (Ends t) → ⊥
unfolding_unheld_never_ends t r =
    only_err _ (at 1 3) _ _ (λ n. refl) (only_ok _ (a_cell, full) _ _ (λ n. refl) (single _ r))

pub unfolding_none_fails : run_all cells unfolds_none folder (FailsAt (at 1 3))
unfolding_none_fails = alone _ (refused (at 1 3) (0, λ m le. refl) refl)

-- Conditions

pub conditions_first_side : run_all cells chooses poor (Ends (state (with_y (pos 1)) (with_x_f (pos 5)) []))
conditions_first_side =
    alone _ (passes (BoolValue true) (0, λ m le. refl)
    (goes_on (state (with_y (pos 1)) (with_x_f (pos 5)) []) (alone _ (passes (IntValue (pos 1)) (0, λ m le. refl) refl)) refl))

pub conditions_other_side : run_all cells chooses_other poor (FailsAt (at 1 40))
conditions_other_side = alone _ (passes (BoolValue false) (0, λ m le. refl) (is_over tt (alone _ (refused (at 1 40) (0, λ m le. refl) refl))))

pub conditions_unread_fails : run_all cells chooses_unread poor (FailsAt (at 1 7))
conditions_unread_fails = alone _ (refused (at 1 7) (0, λ m le. refl) refl)

abbrev with_z : State
with_z = state ((x, RefValue 1) ∷ (y, IntValue (pos 0)) ∷ (z, IntValue (pos 7)) ∷ []) (with_x_f (pos 5)) []

abbrev with_both : State
with_both = state ((x, RefValue 1) ∷ (y, IntValue (pos 7)) ∷ (z, IntValue (pos 7)) ∷ []) (with_x_f (pos 5)) []

pub conditions_forgotten : run_all cells declares_within poor (Ends (state (with_y (pos 7)) (with_x_f (pos 5)) []))
conditions_forgotten =
    alone _ (passes (BoolValue true) (0, λ m le. refl)
    (goes_on with_both (goes_on with_z (IntValue (pos 7), (refl, refl)) (alone _ (passes (IntValue (pos 7)) (0, λ m le. refl) refl))) refl))

-- Sequences

abbrev y_is_one : State
y_is_one = state (with_y (pos 1)) (with_x_f (pos 5)) []

pub sequences_end : run_all cells goes_further poor (Ends (state (with_y (pos 1)) (with_x_f (pos 5)) []))
sequences_end = goes_on y_is_one (passes (IntValue (pos 1)) (0, λ m le. refl) refl) (alone _ (passes [] (0, λ m le. refl) refl))

pub sequences_fail_first : run_all cells fails_then_more poor (FailsAt (at 1 10))
sequences_fail_first = is_over tt (refused (at 1 10) (0, λ m le. refl) refl)

pub sequences_stop_first : run_all cells stops_then_more poor Stops
sequences_stop_first = is_over tt (passes (BoolValue false) (0, λ m le. refl) tt)

pub sequences_never_fail : (place : Place) → run_all cells stops_then_more poor (FailsAt place) → ⊥
sequences_never_fail place (goes_on s c r) = only_ok _ (BoolValue false) _ _ (λ n. refl) c
sequences_never_fail place (is_over h c) = only_ok _ (BoolValue false) _ _ (λ n. refl) c

-- Loops

abbrev y_is : ℕ → State
y_is n = state (with_y (pos n)) [] []

pub iterations_end : run_all cells loops poor (Ends (state (with_y (pos 3)) (with_x_f (pos 5)) []))
iterations_end =
    alone _ (passes [] (0, λ m le. refl) (inr (
      with_x_f (pos 5),
      (
        (λ l h. refl),
        (
          with_y (pos 3),
          (
            (refl, refl, inr refl, (refl, refl, inl refl, tt)),
            goes_on (state (with_y (pos 3)) (with_x_f (pos 5)) []) (passes (BoolValue true) (0, λ m le. refl) refl)
                (passes (BoolValue false) (0, λ m le. refl) refl),
          ),
        ),
      ),
    )))

pub iterations_stop : run_all cells loops poor Stops
iterations_stop =
    alone _ (passes [] (0, λ m le. refl) (inl (
      [],
      (
        with_y (pos 2),
        (
          (refl, refl, inr refl, (refl, refl, inl refl, tt)),
          goes_on (y_is 2) (passes (BoolValue true) (0, λ m le. refl) refl)
              (passes (BoolValue true) (0, λ m le. refl)
              (goes_on (y_is 3) (goes_on (y_is 3) (alone _ (passes (IntValue (pos 3)) (0, λ m le. refl) refl)) refl) (passes [] (0, λ m le. refl) tt))),
        ),
      ),
    )))

pub iterations_unkept_fails : run_all cells loops_unkept poor (FailsAt (at 1 27))
iterations_unkept_fails =
    alone _ (passes [] (0, λ m le. refl) (inl (
      [],
      (
        with_y (pos 2),
        (
          (refl, refl, inr refl, (refl, refl, inl refl, tt)),
          goes_on (y_is 2) (passes (BoolValue true) (0, λ m le. refl) refl)
              (passes (BoolValue true) (0, λ m le. refl)
              (goes_on (y_is 3) (goes_on (y_is 3) (alone _ (passes (IntValue (pos 3)) (0, λ m le. refl) refl)) refl) (refused (at 1 27) (0, λ m le. refl) refl))),
        ),
      ),
    )))

pub iterations_wrong_fails : run_all cells loops_wrong poor (FailsAt (at 1 27))
iterations_wrong_fails = alone _ (refused (at 1 27) (0, λ m le. refl) refl)

pub iterations_wrong_never_ends : (t : State) → run_all cells loops_wrong poor (Ends t) → ⊥
iterations_wrong_never_ends t r = only_err _ (at 1 27) _ _ (λ n. refl) (single _ r)

pub iterations_unread_fails : run_all cells loops_unread owner (FailsAt (at 1 10))
iterations_unread_fails =
    alone _ (passes owner.holdings (0, λ m le. refl) (inl (
      [],
      (
        with_y (pos 0),
        (
          (refl, refl, inr refl, (refl, refl, inr refl, tt)),
          goes_on (y_is 0) (passes (BoolValue true) (0, λ m le. refl) refl)
              (refused (at 1 10) (0, λ m le. refl) refl),
        ),
      ),
    )))

-- Calls

abbrev given_back : Holdings
given_back = gained (At x_f) (product full full) without_x_f

abbrev at_return : State
at_return = record { store = (x, RefValue 1) ∷ (y, IntValue (pos 5)) ∷ []; heap = with_x_f (pos 5); holdings = given_back; old_heap = with_x_f (pos 5); old_holdings = owner.holdings }

nothing_after : (b : Bool) → IsTrue (is_positive (in_all b (minus (product full full) ∷ full ∷ []))) → ⊥
nothing_after true h = cc
nothing_after false h = cc

at_most_back : (b : Bool) → IsTrue (at_most (in_all b (product full full ∷ minus (product full full) ∷ full ∷ [])) full)
at_most_back true = refl
at_most_back false = refl

not_true : IsTrue false → ⊥
not_true h = cc

back_can_be : IsConsistent cells at_return
back_can_be = record { supported = record { grounded = λ i h. absurd (not_true h); null = λ n g. refl }; bounded = λ n l. at_most_back (same_location l x_f) }

pub calling_returns : run_all cells calls owner (Ends (state (with_y (pos 5)) (with_x_f (pos 5)) (gained (At x_f) (product full full) (lost (At x_f) (product full full) owner.holdings))))
calling_returns =
    alone _ (passes (RefValue 1 ∷ []) (0, λ m le. refl) (passes without_x_f (0, λ m le. refl) (
      with_x_f (pos 5),
      (
        (λ l h. refl),
        (
          IntValue (pos 5) ∷ [],
          (
            (refl, tt),
            goes_on at_return
                (goes_on at_return (passes (At x_f, full) (0, λ m le. refl) (inl (back_can_be, refl))) (passes (BoolValue true) (0, λ m le. refl) refl))
                refl,
          ),
        ),
      ),
    )))

pub calling_unheld_fails : run_all cells calls sharer (FailsAt (at 1 3))
calling_unheld_fails = alone _ (passes (RefValue 1 ∷ []) (0, λ m le. refl) (refused (at 1 3) (0, λ m le. refl) refl))

pub calling_unheld_never_ends : (t : State) → run_all cells calls sharer (Ends t) → ⊥
calling_unheld_never_ends t r =
    only_err _ (at 1 3) _ _ (λ n. refl) (only_ok _ (RefValue 1 ∷ []) _ _ (λ n. refl) (single _ r))

pub calling_false_stops : run_all cells calls_never poor Stops
calling_false_stops =
    alone _ (passes (RefValue 1 ∷ []) (0, λ m le. refl) (passes [] (0, λ m le. refl)
    (with_x_f (pos 5), ((λ l h. refl), ([], (tt, is_over tt (passes (BoolValue false) (0, λ m le. refl) tt)))))))

pub calling_unframed_fails : run_all cells calls_unframed poor (FailsAt (at 1 3))
calling_unframed_fails =
    alone _ (passes (RefValue 1 ∷ []) (0, λ m le. refl) (passes [] (0, λ m le. refl)
    (with_x_f (pos 5), ((λ l h. refl), ([], (tt, is_over tt ((at 7 33, refused (at 7 33) (0, λ m le. refl) refl), refl)))))))

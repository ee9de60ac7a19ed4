-- Pairs of terms, and whether they are one and the same; terms, their sorts, and whether they are symbols or literals.
use Rattle.std.specs.Prelude.{Bool, true, false, pos, negsuc, List, [], ◌∷◌}
use Rattle.vx_terms.specs.Sorts as sort
use Rattle.vx_terms.specs.Sorts.{Sort, IntSort, BoolSort, RealSort, RefSort, SnapSort, Named}
use Rattle.vx_terms.specs.Terms as term
use Rattle.vx_terms.specs.Terms.{Term, NoTerms, MoreTerms}
use Rattle.vx_examples.specs.Words.{int, bool, ref, snap, null, unit, number, part, falsity, denied, equal, less, plus, minus, both, chosen_term, quotient, pair, first, second, as_int, wrapped_int}
use Rattle.vx_examples.specs.Simplified.{truth, half}

abbrev pub of_pairs : List ((Term × Term) × Bool)
of_pairs =
    ((truth, truth), true) ∷ ((truth, falsity), false) ∷ ((number 1, number 1), true) ∷ ((number 1, term.Number (negsuc 0)), false)
    ∷ ((half, half), true) ∷ ((half, part (pos 2) 3), false) ∷ ((int 0, int 0), true) ∷ ((int 0, int 1), false) ∷ ((int 0, bool 0), false)
    ∷ ((null, null), true) ∷ ((null, ref 0), false) ∷ ((term.Constant (Named (1 ∷ [])) IntSort, term.Constant (Named (1 ∷ [])) IntSort), true)
    ∷ ((term.Constant (Named (1 ∷ [])) IntSort, term.Constant (Named (2 ∷ [])) IntSort), false)
    ∷ ((first (snap 0), first (snap 0)), true) ∷ ((first (snap 0), second (snap 0)), false) ∷ ((first (snap 0), first (snap 1)), false)
    ∷ ((term.Apply (sort.Function 0) IntSort NoTerms, term.Apply (sort.Function 0) IntSort (MoreTerms (int 0) NoTerms)), false)
    ∷ ((denied (bool 0), denied (bool 0)), true) ∷ ((denied (bool 0), bool 0), false)
    ∷ ((plus (int 0) (int 1), plus (int 0) (int 1)), true) ∷ ((plus (int 0) (int 1), plus (int 1) (int 0)), false) ∷ ((plus (int 0) (int 1), minus (int 0) (int 1)), false)
    ∷ ((chosen_term (bool 0) (int 0) (int 1), chosen_term (bool 0) (int 0) (int 1)), true) ∷ ((chosen_term (bool 0) (int 0) (int 1), chosen_term (bool 0) (int 1) (int 0)), false)
    ∷ ((term.AllOf (MoreTerms truth NoTerms), term.AllOf (MoreTerms truth NoTerms)), true) ∷ ((term.AllOf NoTerms, term.SomeOf NoTerms), false)
    ∷ ((term.SomeOf (MoreTerms truth NoTerms), term.SomeOf (MoreTerms truth NoTerms)), true) ∷ ((term.SomeOf NoTerms, term.SomeOf (MoreTerms truth NoTerms)), false) ∷ []

abbrev pub of_sorts : List (Term × Sort)
of_sorts =
    (truth, BoolSort) ∷ (number 1, IntSort) ∷ (half, RealSort) ∷ (ref 0, RefSort) ∷ (pair (snap 0) unit, SnapSort) ∷ (as_int (snap 0), IntSort) ∷ (denied (bool 0), BoolSort)
    ∷ (plus (int 0) (int 1), IntSort) ∷ (plus half half, RealSort) ∷ (quotient (int 0) (int 1), IntSort) ∷ (equal (int 0) (int 1), BoolSort) ∷ (less half half, BoolSort) ∷ (both truth truth, BoolSort)
    ∷ (chosen_term truth (ref 0) null, RefSort) ∷ (term.AllOf NoTerms, BoolSort) ∷ (term.SomeOf NoTerms, BoolSort) ∷ []

abbrev pub of_names : List (Term × Bool)
of_names =
    (truth, true) ∷ (number 1, true) ∷ (half, true) ∷ (int 0, true) ∷ (null, true) ∷ (unit, true)
    ∷ (plus (int 0) (number 1), false) ∷ (denied (bool 0), false) ∷ (wrapped_int (int 0), false) ∷ (chosen_term truth (int 0) (int 1), false) ∷ []

-- What the constructors of terms make, beside the term that it is: each simplification, and a case next to it that stays as it is.
use Rattle.std.specs.Prelude.{ℕ, ◌-◌, ◌^◌, true, pos, negsuc, List, [], ◌∷◌}
use Rattle.vx_terms.specs.Sorts.{IntSort, BoolSort, RealSort, RefSort, SnapSort}
use Rattle.vx_terms.specs.Terms.{Term, NoTerms, MoreTerms}
use Rattle.vx_terms.specs.Terms as term
use Rattle.vx_terms.specs.Sorts as sort
use Rattle.vx_terms.specs.Build as make
use Rattle.vx_examples.specs.Words.{int, bool, real, ref, snap, null, unit, number, part, falsity, denied, equal, less, at_most, plus, minus, times, both, either, implied, chosen_term, quotient, remainder, applied, pair, first, second, wrapped_int, wrapped_ref, as_int, as_ref}

abbrev pub truth : Term
truth = term.Truth true

abbrev pub p : Term
p = bool 0

abbrev pub q : Term
q = bool 1

-- the greatest numeral that is folded
abbrev pub greatest : ℕ
greatest = 2 ^ 127 - 1

abbrev pub least : Term
least = term.Number (negsuc (greatest - 1))

abbrev pub half : Term
half = part (pos 1) 1

abbrev pub third : Term
third = part (pos 1) 2

abbrev pub whole : Term
whole = part (pos 1) 0

abbrev pub nothing : Term
nothing = part (pos 0) 0

abbrev pub of_not : List (Term × Term)
of_not = (make.negate truth, falsity) ∷ (make.negate falsity, truth) ∷ (make.negate (denied p), p) ∷ (make.negate p, denied p) ∷ []

abbrev pub of_and : List (Term × Term)
of_and =
    (make.and truth p, p) ∷ (make.and falsity p, falsity) ∷ (make.and p truth, p) ∷ (make.and p falsity, falsity)
    ∷ (make.and p q, both p q) ∷ (make.and p p, both p p) ∷ []

abbrev pub of_or : List (Term × Term)
of_or =
    (make.or truth p, truth) ∷ (make.or falsity p, p) ∷ (make.or p truth, truth) ∷ (make.or p falsity, p)
    ∷ (make.or p q, either p q) ∷ (make.or p p, either p p) ∷ []

abbrev pub of_implies : List (Term × Term)
of_implies =
    (make.implies truth p, p) ∷ (make.implies falsity p, truth) ∷ (make.implies p truth, truth) ∷ (make.implies p falsity, denied p)
    ∷ (make.implies (denied p) falsity, p) ∷ (make.implies p q, implied p q) ∷ (make.implies p p, implied p p) ∷ []

abbrev pub of_ite : List (Term × Term)
of_ite =
    (make.ite truth (int 0) (int 1), int 0) ∷ (make.ite falsity (int 0) (int 1), int 1) ∷ (make.ite p (int 0) (int 0), int 0)
    ∷ (make.ite p (int 0) (int 1), chosen_term p (int 0) (int 1)) ∷ []

abbrev pub of_equals : List (Term × Term)
of_equals =
    (make.equals (int 0) (int 0), truth) ∷ (make.equals (number 1) (number 1), truth) ∷ (make.equals (number 1) (number 2), falsity)
    ∷ (make.equals half third, falsity) ∷ (make.equals half half, truth) ∷ (make.equals truth falsity, falsity) ∷ (make.equals truth truth, truth)
    ∷ (make.equals (int 0) (int 1), equal (int 0) (int 1)) ∷ (make.equals (int 0) (number 1), equal (int 0) (number 1)) ∷ (make.equals null (ref 0), equal null (ref 0)) ∷ []

abbrev pub of_less : List (Term × Term)
of_less =
    (make.less (number 1) (number 2), truth) ∷ (make.less (number 2) (number 1), falsity) ∷ (make.less (number 1) (number 1), falsity)
    ∷ (make.less third half, truth) ∷ (make.less half third, falsity) ∷ (make.less (int 0) (int 0), falsity) ∷ (make.less (int 0) (int 1), less (int 0) (int 1)) ∷ []

abbrev pub of_at_most : List (Term × Term)
of_at_most =
    (make.less_equal (number 1) (number 1), truth) ∷ (make.less_equal (number 1) (number 2), truth) ∷ (make.less_equal (number 2) (number 1), falsity)
    ∷ (make.less_equal third half, truth) ∷ (make.less_equal half third, falsity) ∷ (make.less_equal (int 0) (int 0), truth)
    ∷ (make.less_equal (int 0) (int 1), at_most (int 0) (int 1)) ∷ []

abbrev pub of_add : List (Term × Term)
of_add =
    (make.add (number 1) (number 2), number 3) ∷ (make.add half third, part (pos 5) 5) ∷ (make.add half half, whole)
    ∷ (make.add (int 0) (number 0), int 0) ∷ (make.add (number 0) (int 0), int 0) ∷ (make.add (real 0) nothing, real 0) ∷ (make.add nothing (real 0), real 0)
    ∷ (make.add (int 0) (number 1), plus (int 0) (number 1))
    ∷ (make.add (number (greatest - 1)) (number 1), number greatest) ∷ (make.add (number greatest) (number 1), plus (number greatest) (number 1))
    ∷ (make.add (part (pos greatest) 0) whole, plus (part (pos greatest) 0) whole) ∷ []

abbrev pub of_subtract : List (Term × Term)
of_subtract =
    (make.subtract (number 1) (number 3), term.Number (negsuc 1)) ∷ (make.subtract half third, part (pos 1) 5) ∷ (make.subtract half half, nothing)
    ∷ (make.subtract (int 0) (number 0), int 0) ∷ (make.subtract (real 0) nothing, real 0) ∷ (make.subtract (number 0) (int 0), minus (number 0) (int 0))
    ∷ (make.subtract (int 0) (int 0), minus (int 0) (int 0))
    ∷ (make.subtract (number 0) (number greatest), least) ∷ (make.subtract least (number 1), minus least (number 1))
    ∷ (make.subtract (part (negsuc (greatest - 1)) 0) whole, minus (part (negsuc (greatest - 1)) 0) whole) ∷ []

abbrev pub of_multiply : List (Term × Term)
of_multiply =
    (make.multiply (number 2) (number 3), number 6) ∷ (make.multiply half third, part (pos 1) 5) ∷ (make.multiply (int 0) (number 1), int 0)
    ∷ (make.multiply (number 1) (int 0), int 0) ∷ (make.multiply (int 0) (number 0), number 0) ∷ (make.multiply (number 0) (int 0), number 0)
    ∷ (make.multiply whole (real 0), real 0) ∷ (make.multiply (real 0) whole, real 0) ∷ (make.multiply nothing (real 0), nothing)
    ∷ (make.multiply (int 0) (int 1), times (int 0) (int 1)) ∷ (make.multiply half (real 0), times half (real 0))
    ∷ (make.multiply (number greatest) (number 2), times (number greatest) (number 2))
    ∷ (make.multiply (part (pos 1) (2 ^ 100 - 1)) (part (pos 1) (2 ^ 100 - 1)), times (part (pos 1) (2 ^ 100 - 1)) (part (pos 1) (2 ^ 100 - 1))) ∷ []

abbrev pub of_div : List (Term × Term)
of_div =
    (make.div (number 7) (number 2), number 3) ∷ (make.div (term.Number (negsuc 6)) (number 2), term.Number (negsuc 3))
    ∷ (make.div (number 7) (term.Number (negsuc 1)), term.Number (negsuc 2)) ∷ (make.div (number 7) (number 0), quotient (number 7) (number 0))
    ∷ (make.div (int 0) (number 1), quotient (int 0) (number 1)) ∷ []

abbrev pub of_modulo : List (Term × Term)
of_modulo =
    (make.modulo (number 7) (number 2), number 1) ∷ (make.modulo (term.Number (negsuc 6)) (number 2), number 1)
    ∷ (make.modulo (number 7) (term.Number (negsuc 1)), number 1) ∷ (make.modulo (number 7) (number 0), remainder (number 7) (number 0))
    ∷ (make.modulo (int 0) (number 1), remainder (int 0) (number 1)) ∷ []

abbrev pub of_snapshots : List (Term × Term)
of_snapshots =
    (make.first (pair (snap 0) unit), snap 0) ∷ (make.first (snap 0), first (snap 0)) ∷ (make.first (wrapped_int (int 0)), first (wrapped_int (int 0)))
    ∷ (make.second (pair (snap 0) unit), unit) ∷ (make.second (snap 0), second (snap 0)) ∷ (make.second (wrapped_int (int 0)), second (wrapped_int (int 0)))
    ∷ (make.unwrap IntSort (wrapped_int (int 0)), int 0) ∷ (make.unwrap RefSort (wrapped_ref (ref 0)), ref 0)
    ∷ (make.unwrap RefSort (wrapped_int (int 0)), as_ref (wrapped_int (int 0))) ∷ (make.unwrap IntSort (snap 0), as_int (snap 0)) ∷ (make.unwrap IntSort (first (snap 0)), as_int (first (snap 0)))
    ∷ (make.wrap IntSort (int 0), applied 5 SnapSort (MoreTerms (int 0) NoTerms)) ∷ (make.wrap BoolSort (bool 0), applied 6 SnapSort (MoreTerms (bool 0) NoTerms))
    ∷ (make.wrap RealSort (real 0), applied 7 SnapSort (MoreTerms (real 0) NoTerms)) ∷ (make.wrap RefSort (ref 0), applied 8 SnapSort (MoreTerms (ref 0) NoTerms))
    ∷ (make.unwrap BoolSort (snap 0), applied 10 BoolSort (MoreTerms (snap 0) NoTerms)) ∷ (make.unwrap RealSort (snap 0), applied 11 RealSort (MoreTerms (snap 0) NoTerms))
    ∷ (make.null, null) ∷ (make.unit, unit) ∷ (make.pair (snap 0) (snap 1), pair (snap 0) (snap 1))
    ∷ (make.application 2 IntSort (snap 0) (MoreTerms (ref 0) NoTerms), term.Apply (sort.Function 2) IntSort (MoreTerms (snap 0) (MoreTerms (ref 0) NoTerms)))
    ∷ (make.variable 3 RefSort, ref 3) ∷ (make.zero_amount, nothing) ∷ (make.whole_amount, whole) ∷ []

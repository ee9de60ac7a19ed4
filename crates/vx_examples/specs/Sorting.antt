-- Sorts, symbols and operators, and terms that are not well-sorted.
use Rattle.std.specs.Prelude.{ℕ, ◌-◌, ◌^◌, Bool, true, false, pos, negsuc, List, [], ◌∷◌}
use Rattle.vx_frac.specs.Fractions.{none}
use Rattle.vx_terms.specs.Sorts as sort
use Rattle.vx_terms.specs.Sorts.{Sort, IntSort, BoolSort, RealSort, RefSort, SnapSort, OtherSort, Symbol, Standard, Function, Variable, Named, Operator}
use Rattle.vx_terms.specs.Terms as term
use Rattle.vx_terms.specs.Terms.{Term, NoTerms, MoreTerms}
use Rattle.vx_terms.specs.Build as make
use Rattle.vx_terms.specs.Interpretations.{Empty, RefLeaf, Element, IntElement, BoolElement, RealElement, TreeElement}
use Rattle.vx_examples.specs.Words.{int, real, snap, unit, number, part, falsity, equal, less, at_most, plus, minus, times, both, either, implied, chosen_term, quotient, remainder, applied, first, second, as_int}
use Rattle.vx_examples.specs.Simplified.{truth, half, third}

abbrev pub of_texts : List ((List ℕ × List ℕ) × Bool)
of_texts = (([], []), true) ∷ ((1 ∷ [], 1 ∷ []), true) ∷ ((1 ∷ [], 2 ∷ []), false) ∷ ((1 ∷ [], []), false) ∷ (([], 1 ∷ []), false) ∷ ((1 ∷ 2 ∷ [], 1 ∷ 3 ∷ []), false) ∷ []

abbrev pub of_sort_numbers : List (Sort × ℕ)
of_sort_numbers = (IntSort, 0) ∷ (BoolSort, 1) ∷ (RealSort, 2) ∷ (RefSort, 3) ∷ (SnapSort, 4) ∷ (OtherSort (7 ∷ []), 5) ∷ []

abbrev pub of_sort_texts : List (Sort × List ℕ)
of_sort_texts = (OtherSort (7 ∷ []), 7 ∷ []) ∷ (IntSort, []) ∷ (SnapSort, []) ∷ []

abbrev pub of_sorts : List ((Sort × Sort) × Bool)
of_sorts =
    ((IntSort, IntSort), true) ∷ ((IntSort, BoolSort), false) ∷ ((RealSort, RealSort), true) ∷ ((RefSort, SnapSort), false) ∷ ((OtherSort (7 ∷ []), OtherSort (7 ∷ [])), true)
    ∷ ((OtherSort (7 ∷ []), OtherSort (8 ∷ [])), false) ∷ ((OtherSort [], SnapSort), false) ∷ []

abbrev pub of_symbols : List ((Symbol × Symbol) × Bool)
of_symbols =
    ((Standard 1, Standard 1), true) ∷ ((Standard 1, Standard 2), false) ∷ ((Function 1, Function 1), true) ∷ ((Function 1, Function 2), false) ∷ ((Variable 1, Variable 1), true)
    ∷ ((Variable 1, Variable 2), false) ∷ ((Named (7 ∷ []), Named (7 ∷ [])), true) ∷ ((Named (7 ∷ []), Named (8 ∷ [])), false) ∷ ((Standard 1, Variable 1), false) ∷ ((Function 1, Named (1 ∷ [])), false) ∷ []

abbrev pub of_operators : List (Operator × ℕ)
of_operators =
    (sort.And, 0) ∷ (sort.Or, 1) ∷ (sort.Implies, 2) ∷ (sort.Equal, 3) ∷ (sort.Less, 4) ∷ (sort.LessEqual, 5) ∷ (sort.Add, 6) ∷ (sort.Subtract, 7) ∷ (sort.Multiply, 8) ∷ (sort.Div, 9) ∷ (sort.Mod, 10) ∷ []

-- what an operator gives of operands of a sort
abbrev pub of_results : List ((Operator × Sort) × Sort)
of_results =
    ((sort.And, BoolSort), BoolSort) ∷ ((sort.Or, BoolSort), BoolSort) ∷ ((sort.Implies, BoolSort), BoolSort) ∷ ((sort.Equal, RefSort), BoolSort) ∷ ((sort.Less, RealSort), BoolSort)
    ∷ ((sort.LessEqual, IntSort), BoolSort) ∷ ((sort.Add, IntSort), IntSort) ∷ ((sort.Add, RealSort), RealSort) ∷ ((sort.Subtract, RealSort), RealSort) ∷ ((sort.Multiply, IntSort), IntSort)
    ∷ ((sort.Div, IntSort), IntSort) ∷ ((sort.Mod, IntSort), IntSort) ∷ []

-- constructors on operands of sorts that they don't take, or that leave 128 bits: the term as it stands
abbrev pub of_unsorted : List (Term × Term)
of_unsorted =
    (make.less truth falsity, less truth falsity) ∷ (make.less (number 1) half, less (number 1) half) ∷ (make.less_equal truth falsity, at_most truth falsity) ∷ (make.less_equal half (number 1), at_most half (number 1))
    ∷ (make.add truth truth, plus truth truth) ∷ (make.add (number 1) half, plus (number 1) half) ∷ (make.subtract truth falsity, minus truth falsity) ∷ (make.subtract (number 1) half, minus (number 1) half)
    ∷ (make.multiply truth falsity, times truth falsity) ∷ (make.multiply (number 2) half, times (number 2) half) ∷ (make.div half third, quotient half third) ∷ (make.modulo half third, remainder half third)
    ∷ (make.equals (number 1) truth, equal (number 1) truth) ∷ (make.equals (number 1) half, equal (number 1) half) ∷ (make.and (number 1) (number 2), both (number 1) (number 2))
    ∷ (make.or (number 1) (number 2), either (number 1) (number 2)) ∷ (make.implies (number 1) (number 2), implied (number 1) (number 2)) ∷ (make.ite (number 1) (int 0) (int 1), chosen_term (number 1) (int 0) (int 1))
    ∷ (make.add (part (pos 1) (2 ^ 100 - 1)) (part (pos 1) (2 ^ 101 - 2)), plus (part (pos 1) (2 ^ 100 - 1)) (part (pos 1) (2 ^ 101 - 2)))
    ∷ (make.subtract (part (pos 1) (2 ^ 100 - 1)) (part (pos 1) (2 ^ 101 - 2)), minus (part (pos 1) (2 ^ 100 - 1)) (part (pos 1) (2 ^ 101 - 2)))
    -- a fraction that isn't reduced
    ∷ (make.add (real 0) (part (pos 0) 3), real 0)
    -- snapshots of other sorts, and of other numbers of parts
    ∷ (make.wrap SnapSort (snap 0), applied 5 SnapSort (MoreTerms (snap 0) NoTerms)) ∷ (make.wrap (OtherSort []) (int 0), applied 5 SnapSort (MoreTerms (int 0) NoTerms))
    ∷ (make.unwrap SnapSort (snap 0), applied 9 SnapSort (MoreTerms (snap 0) NoTerms))
    ∷ (make.unwrap IntSort (applied 5 SnapSort (MoreTerms (int 0) (MoreTerms (int 1) NoTerms))), as_int (applied 5 SnapSort (MoreTerms (int 0) (MoreTerms (int 1) NoTerms))))
    ∷ (make.first (applied 2 SnapSort (MoreTerms (snap 0) NoTerms)), first (applied 2 SnapSort (MoreTerms (snap 0) NoTerms)))
    ∷ (make.second (applied 2 SnapSort (MoreTerms (snap 0) (MoreTerms (snap 1) (MoreTerms unit NoTerms)))), second (applied 2 SnapSort (MoreTerms (snap 0) (MoreTerms (snap 1) (MoreTerms unit NoTerms)))))
    ∷ (make.first (term.Apply (Function 2) SnapSort (MoreTerms (snap 0) (MoreTerms (snap 1) NoTerms))), first (term.Apply (Function 2) SnapSort (MoreTerms (snap 0) (MoreTerms (snap 1) NoTerms)))) ∷ []

-- Elements

abbrev pub of_ints : List (Element × Element)
of_ints = (IntElement (pos 3), IntElement (pos 3)) ∷ (BoolElement true, IntElement (pos 0)) ∷ (RealElement none, IntElement (pos 0)) ∷ (TreeElement (RefLeaf 3), IntElement (pos 0)) ∷ []

abbrev pub of_bools : List (Element × Element)
of_bools = (BoolElement true, BoolElement true) ∷ (IntElement (pos 1), BoolElement false) ∷ (TreeElement Empty, BoolElement false) ∷ []

abbrev pub of_reals : List (Element × Element)
of_reals = (RealElement record { numerator = pos 2; below = 3 }, RealElement record { numerator = pos 1; below = 1 }) ∷ (IntElement (pos 1), RealElement none) ∷ []

abbrev pub of_refs : List (Element × Element)
of_refs = (TreeElement (RefLeaf 3), TreeElement (RefLeaf 3)) ∷ (IntElement (pos 3), TreeElement Empty) ∷ []

abbrev pub of_elements : List ((Element × Element) × Bool)
of_elements =
    ((IntElement (pos 1), IntElement (pos 1)), true) ∷ ((IntElement (pos 1), IntElement (negsuc 0)), false) ∷ ((BoolElement false, BoolElement false), true) ∷ ((BoolElement true, BoolElement false), false)
    ∷ ((RealElement none, RealElement none), true) ∷ ((RealElement none, RealElement record { numerator = pos 0; below = 1 }), false) ∷ ((TreeElement (RefLeaf 1), TreeElement (RefLeaf 1)), true)
    ∷ ((TreeElement (RefLeaf 1), TreeElement Empty), false) ∷ ((IntElement (pos 0), BoolElement false), false) ∷ ((TreeElement Empty, IntElement (pos 0)), false) ∷ []

-- terms that are not well-sorted, and divisors below 0, with their elements under the interpretation `some`
abbrev pub of_values : List (Term × Element)
of_values =
    (plus half (number 1), RealElement record { numerator = pos 1; below = 1 }) ∷ (plus (number 1) half, IntElement (pos 1)) ∷ (plus truth (number 1), IntElement (pos 1)) ∷ (less half (number 1), BoolElement false)
    ∷ (both (number 1) truth, BoolElement false) ∷ (implied (number 1) falsity, BoolElement true) ∷ (chosen_term (number 1) (number 2) (number 3), IntElement (pos 3))
    ∷ (quotient (number 7) (term.Number (negsuc 1)), IntElement (negsuc 2)) ∷ (quotient (term.Number (negsuc 6)) (term.Number (negsuc 1)), IntElement (pos 4))
    ∷ (remainder (number 7) (term.Number (negsuc 1)), IntElement (pos 1)) ∷ (remainder (term.Number (negsuc 6)) (term.Number (negsuc 1)), IntElement (pos 1)) ∷ (quotient half (number 1), IntElement (pos 0)) ∷ []

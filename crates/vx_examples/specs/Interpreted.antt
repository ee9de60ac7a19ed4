-- Terms and their elements under one interpretation.
use Rattle.std.specs.Prelude.{zero, suc, Bool, true, false, pos, negsuc, List, [], ◌∷◌}
use Rattle.vx_frac.specs.Fractions.{Fraction}
use Rattle.vx_terms.specs.Sorts.{IntSort, OtherSort, Symbol, Standard, Variable, Function}
use Rattle.vx_terms.specs.Terms as term
use Rattle.vx_terms.specs.Terms.{Term, NoTerms, MoreTerms}
use Rattle.vx_terms.specs.Interpretations.{Tree, Empty, IntLeaf, BoolLeaf, RefLeaf, PermLeaf, Pair, Element, IntElement, BoolElement, RealElement, TreeElement, as_tree, Interpretation}
use Rattle.vx_examples.specs.Words.{int, bool, real, ref, snap, null, unit, number, part, falsity, denied, equal, less, at_most, plus, minus, times, both, either, implied, chosen_term, quotient, remainder, pair}
use Rattle.vx_examples.specs.Simplified.{truth, half, third}

abbrev pub one_sixth : Fraction
one_sixth = record { numerator = pos 1; below = 5 }

-- the element of a symbol at these arguments
abbrev pub element : Symbol → List Element → Element
element (Variable zero) es = IntElement (pos 5)
element (Variable (suc zero)) es = BoolElement true
element (Variable (suc (suc zero))) es = RealElement record { numerator = pos 2; below = 3 }
element (Variable (suc (suc (suc zero)))) es = TreeElement (RefLeaf 1)
element (Standard zero) es = TreeElement (RefLeaf 0)
element (Standard (suc (suc zero))) (a ∷ b ∷ []) = TreeElement (Pair (as_tree a) (as_tree b))
element f es = TreeElement Empty

-- v0 is 5, v1 is true, v2 is one half (given as 2/4), v3 is the leaf 1; quotients by 0 are 7 and remainders by 0 are 8
abbrev pub some : Interpretation
some = record { functions = λ f a es. element f es; quotients = λ n. pos 7; remainders = λ n. pos 8 }

abbrev pub yes_element : Element
yes_element = BoolElement true

abbrev pub no_element : Element
no_element = BoolElement false

abbrev pub of_symbols : List (Term × Element)
of_symbols =
    (int 0, IntElement (pos 5)) ∷ (int 1, IntElement (pos 0)) ∷ (bool 1, yes_element) ∷ (bool 0, no_element)
    ∷ (real 2, RealElement record { numerator = pos 1; below = 1 }) ∷ (real 0, RealElement record { numerator = pos 0; below = 0 })
    ∷ (ref 3, TreeElement (RefLeaf 1)) ∷ (ref 0, TreeElement Empty) ∷ (null, TreeElement (RefLeaf 0)) ∷ (unit, TreeElement Empty)
    ∷ (term.Constant (Variable 3) (OtherSort (1 ∷ [])), TreeElement (RefLeaf 1)) ∷ (pair (snap 3) unit, TreeElement (Pair (RefLeaf 1) Empty))
    ∷ (term.Apply (Function 0) IntSort (MoreTerms (int 0) NoTerms), IntElement (pos 0)) ∷ []

abbrev pub of_core : List (Term × Element)
of_core =
    (truth, yes_element) ∷ (falsity, no_element) ∷ (denied truth, no_element) ∷ (denied falsity, yes_element)
    ∷ (both truth truth, yes_element) ∷ (both truth falsity, no_element) ∷ (both falsity truth, no_element)
    ∷ (either falsity falsity, no_element) ∷ (either falsity truth, yes_element) ∷ (either truth falsity, yes_element)
    ∷ (implied truth falsity, no_element) ∷ (implied truth truth, yes_element) ∷ (implied falsity falsity, yes_element)
    ∷ (equal (number 5) (int 0), yes_element) ∷ (equal (number 4) (int 0), no_element) ∷ (equal half (real 2), yes_element) ∷ (equal third (real 2), no_element)
    ∷ (equal truth (bool 1), yes_element) ∷ (equal truth falsity, no_element) ∷ (equal (ref 3) null, no_element) ∷ (equal (ref 3) (snap 3), yes_element) ∷ (equal truth (number 1), no_element)
    ∷ (chosen_term truth (number 1) (number 2), IntElement (pos 1)) ∷ (chosen_term falsity (number 1) (number 2), IntElement (pos 2))
    ∷ (term.AllOf (MoreTerms truth (MoreTerms truth (MoreTerms truth NoTerms))), yes_element)
    ∷ (term.AllOf (MoreTerms truth (MoreTerms falsity (MoreTerms truth NoTerms))), no_element) ∷ (term.AllOf NoTerms, yes_element)
    ∷ (term.SomeOf (MoreTerms falsity (MoreTerms truth (MoreTerms falsity NoTerms))), yes_element)
    ∷ (term.SomeOf (MoreTerms falsity (MoreTerms falsity NoTerms)), no_element) ∷ (term.SomeOf NoTerms, no_element) ∷ []

abbrev pub of_arithmetic : List (Term × Element)
of_arithmetic =
    (number 3, IntElement (pos 3)) ∷ (half, RealElement record { numerator = pos 1; below = 1 })
    ∷ (plus (int 0) (number 1), IntElement (pos 6)) ∷ (plus half (part (pos 1) 3), RealElement record { numerator = pos 3; below = 3 })
    ∷ (minus (number 1) (int 0), IntElement (negsuc 3)) ∷ (minus half third, RealElement one_sixth)
    ∷ (times (int 0) (number 2), IntElement (pos 10)) ∷ (times half third, RealElement one_sixth)
    ∷ (less (number 4) (int 0), yes_element) ∷ (less (int 0) (number 5), no_element) ∷ (less third half, yes_element) ∷ (less half (real 2), no_element)
    ∷ (at_most (int 0) (number 5), yes_element) ∷ (at_most (int 0) (number 4), no_element) ∷ (at_most half (real 2), yes_element) ∷ (at_most half third, no_element)
    ∷ (quotient (number 7) (number 2), IntElement (pos 3)) ∷ (quotient (term.Number (negsuc 6)) (number 2), IntElement (negsuc 3)) ∷ (quotient (number 9) (number 0), IntElement (pos 7))
    ∷ (remainder (number 7) (number 2), IntElement (pos 1)) ∷ (remainder (term.Number (negsuc 6)) (number 2), IntElement (pos 1)) ∷ (remainder (number 9) (number 0), IntElement (pos 8)) ∷ []

-- pairs of trees, and whether they are one
abbrev pub of_trees : List ((Tree × Tree) × Bool)
of_trees =
    ((Empty, Empty), true) ∷ ((IntLeaf (pos 1), IntLeaf (pos 1)), true) ∷ ((IntLeaf (pos 1), IntLeaf (pos 2)), false)
    ∷ ((BoolLeaf true, BoolLeaf true), true) ∷ ((BoolLeaf true, BoolLeaf false), false) ∷ ((RefLeaf 1, RefLeaf 1), true) ∷ ((RefLeaf 1, RefLeaf 2), false)
    ∷ ((PermLeaf one_sixth, PermLeaf one_sixth), true) ∷ ((PermLeaf one_sixth, PermLeaf record { numerator = pos 2; below = 11 }), false)
    ∷ ((Pair Empty Empty, Pair Empty Empty), true) ∷ ((Pair Empty Empty, Pair Empty (RefLeaf 1)), false) ∷ ((Pair Empty Empty, Pair (RefLeaf 1) Empty), false)
    ∷ ((Empty, RefLeaf 0), false) ∷ []

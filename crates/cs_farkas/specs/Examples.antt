-- Sums of `farkas` steps that are computed.
use Rattle.std.specs.Prelude.{◌≡◌, ◌-◌, ◌^◌, ℕ, pos, negsuc, true, false, List, [], ◌∷◌, Some, None}
use Rattle.vx_frac.specs.Fractions.{Fraction, whole, none}
use Rattle.vx_frac.specs.declared.Op.TheVariants as calls
use Rattle.vx_terms.specs.Sorts.{Sort, IntSort, BoolSort, RealSort, Variable, Equal, Less, LessEqual, Add, Subtract, Multiply, Div}
use Rattle.cs_certificate.specs.Terms.{Head, NumberHead, PartHead, ConstantHead, BinaryHead, NotHead}
use Rattle.cs_certificate.specs.Linear.{AtMostZero, BelowZero, IsZero}
use Rattle.cs_certificate.specs.Certificate.{Plain, Negated}
use Rattle.cs_certificate.specs.Nodes.{Node}
use Rattle.cs_certificate.specs.Steps.{plain, denial}
use Rattle.cs_farkas.specs.Sums.{Done, Leaves, Misses, Literal, Sum, Difference, Multiple, Column, times, plus, of_head}
use Rattle.cs_farkas.specs.Rows.{bound, comparison, Part, combination_of, farkas_clause, is_raised, is_strict, may_multiply}

abbrev pub node : Head → List ℕ → Sort → Node
node h ps a = record { head = h; parts = ps; sort = a }

abbrev pub integer : ℕ → Node
integer n = node (ConstantHead (Variable n) IntSort) [] IntSort

-- `(= v2 (+ v0 1))`, `(not (< v0 v2))`
abbrev pub worked : List Node
worked =
    node (BinaryHead Equal) (1 ∷ 2 ∷ []) BoolSort ∷ integer 2 ∷ node (BinaryHead Add) (3 ∷ 4 ∷ []) IntSort ∷ integer 0 ∷ node (NumberHead (pos 1)) [] IntSort
    ∷ node NotHead (6 ∷ []) BoolSort ∷ node (BinaryHead Less) (3 ∷ 1 ∷ []) BoolSort ∷ []

-- one over the largest number of 128 bits, below 0, and one over the next lower
abbrev pub small : Fraction
small = record { numerator = negsuc 0; below = 2 ^ 127 - 2 }

abbrev pub other : Fraction
other = record { numerator = pos 1; below = 2 ^ 127 - 3 }

abbrev pub one : Fraction
one = whole (pos 1)

abbrev pub minus_one : Fraction
minus_one = whole (negsuc 0)

abbrev pub of_strict : Fraction → Part
of_strict m = record { bound = bound 0 1 BelowZero; multiplier = m }

pub record Examples : Type 0 where
  pub adds_up : farkas_clause worked 7 (denial 0 ∷ plain 6 ∷ []) (minus_one ∷ one ∷ []) ≡ Done (denial 0 ∷ plain 6 ∷ [])
  pub signs_turned : farkas_clause worked 7 (denial 0 ∷ plain 6 ∷ []) (one ∷ minus_one ∷ []) ≡ Misses
  pub column_left : farkas_clause worked 7 (denial 0 ∷ plain 6 ∷ []) (one ∷ one ∷ []) ≡ Misses
  pub too_large_sum : plus small other ≡ Leaves record { call = calls.Add; left = small; right = other }
  pub too_large_product : times small other ≡ Leaves record { call = calls.Mul; left = small; right = other }
  pub small_sum : plus one one ≡ Done (whole (pos 2))
  pub small_product : times one minus_one ≡ Done minus_one
  pub no_equation : combination_of worked (plain 0 ∷ []) (one ∷ []) ≡ None
  pub no_comparison : combination_of worked (denial 5 ∷ []) (one ∷ []) ≡ None
  pub too_few : combination_of worked (denial 0 ∷ plain 6 ∷ []) (one ∷ []) ≡ None
  pub no_literal : combination_of worked [] [] ≡ None
  pub not_less : comparison Plain (BinaryHead Less) 1 2 ≡ Some (bound 2 1 AtMostZero)
  pub not_at_most : comparison Plain (BinaryHead LessEqual) 1 2 ≡ Some (bound 2 1 BelowZero)
  pub less : comparison Negated (BinaryHead Less) 1 2 ≡ Some (bound 1 2 BelowZero)
  pub at_most : comparison Negated (BinaryHead LessEqual) 1 2 ≡ Some (bound 1 2 AtMostZero)
  pub equals : comparison Negated (BinaryHead Equal) 1 2 ≡ Some (bound 1 2 IsZero)
  pub no_sum : comparison Negated (BinaryHead Add) 1 2 ≡ None
  pub literal : of_head worked (NumberHead (pos 3)) [] ≡ Literal (whole (pos 3))
  pub part : of_head worked (PartHead small) [] ≡ Literal small
  pub sum : of_head worked (BinaryHead Add) (3 ∷ 4 ∷ []) ≡ Sum 3 4
  pub difference : of_head worked (BinaryHead Subtract) (3 ∷ 4 ∷ []) ≡ Difference 3 4
  pub left_literal : of_head worked (BinaryHead Multiply) (4 ∷ 3 ∷ []) ≡ Multiple one 3
  pub right_literal : of_head worked (BinaryHead Multiply) (3 ∷ 4 ∷ []) ≡ Multiple one 3
  pub product : of_head worked (BinaryHead Multiply) (3 ∷ 1 ∷ []) ≡ Column
  pub quotient : of_head worked (BinaryHead Div) (3 ∷ 4 ∷ []) ≡ Column
  pub raised : is_raised IntSort BelowZero ≡ true
  pub not_raised : is_raised RealSort BelowZero ≡ false
  pub strict : is_strict RealSort (of_strict one) ≡ true
  pub strict_int : is_strict IntSort (of_strict one) ≡ false
  pub times_none : is_strict RealSort (of_strict none) ≡ false
  pub at_least_none : may_multiply (of_strict none) ≡ true
  pub below_none : may_multiply (of_strict minus_one) ≡ false
  pub any_on_equation : may_multiply record { bound = bound 0 1 IsZero; multiplier = minus_one } ≡ true

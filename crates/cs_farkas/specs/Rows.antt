-- The clause of a `farkas` step by number.
use Rattle.std.specs.Prelude.{ℕ, pos, Bool, true, false, ◌&&◌, ◌||◌, if◌then◌else◌, List, [], ◌∷◌, Option, Some, None, length, slice_get, replicate, int_lt, int_le}
use Rattle.std.specs.List.{list_all, list_any}
use Rattle.std.specs.Ordering.{int_eq}
use Rattle.vx_frac.specs.Fractions.{Fraction, none, full}
use Rattle.vx_terms.specs.Sorts.{Sort, IntSort, RealSort, Equal, Less, LessEqual, same_sort}
use Rattle.cs_certificate.specs.Terms.{Head, BinaryHead}
use Rattle.cs_certificate.specs.Linear.{minus_one, Relation, AtMostZero, BelowZero, IsZero}
use Rattle.cs_certificate.specs.Certificate.{Sign, Plain, Negated, NumberedLiteral}
use Rattle.cs_certificate.specs.Nodes.{Node}
use Rattle.cs_farkas.specs.Sums.{Outcome, Done, Misses, Sums, ◌>>=◌, read_term, add_constant}

-- left less right, by number
pub record Bound : Type 0 where
  pub left : ℕ
  pub right : ℕ
  pub relation : Relation

abbrev pub bound : ℕ → ℕ → Relation → Bound
bound a b r = record { left = a; right = b; relation = r }

-- what the negation of a literal says of the sides of its comparison
abbrev pub comparison : Sign → Head → ℕ → ℕ → Option Bound
comparison Plain (BinaryHead Less) a b = Some (bound b a AtMostZero)
comparison Plain (BinaryHead LessEqual) a b = Some (bound b a BelowZero)
comparison Negated (BinaryHead Less) a b = Some (bound a b BelowZero)
comparison Negated (BinaryHead LessEqual) a b = Some (bound a b AtMostZero)
comparison Negated (BinaryHead Equal) a b = Some (bound a b IsZero)
comparison sign h a b = None

abbrev pub of_sides : Sign → Head → List ℕ → Option Bound
of_sides sign h (a ∷ b ∷ []) = comparison sign h a b
of_sides sign h ps = None

abbrev pub bound_at : List Node → NumberedLiteral → Option Bound
bound_at nodes l = elim (slice_get nodes l.number) [ Some n ↦ of_sides l.sign n.head n.parts | None ↦ None ]

abbrev pub number_sort : Sort → Option Sort
number_sort IntSort = Some IntSort
number_sort RealSort = Some RealSort
number_sort a = None

-- the sort of a numbered term, where it is Int or Real
abbrev pub sort_at : List Node → ℕ → Option Sort
sort_at nodes k = elim (slice_get nodes k) [ Some n ↦ number_sort n.sort | None ↦ None ]

abbrev pub is_at : List Node → Sort → ℕ → Bool
is_at nodes a k = elim (slice_get nodes k) [ Some n ↦ same_sort n.sort a | None ↦ false ]

-- a constraint and its multiplier
pub record Part : Type 0 where
  pub bound : Bound
  pub multiplier : Fraction

abbrev pub with_part : Option Bound → Fraction → Option (List Part) → Option (List Part)
with_part (Some b) m (Some ps) = Some (record { bound = b; multiplier = m } ∷ ps)
with_part _ m _ = None

-- as many multipliers as constraints
abbrev pub parts_of : List Node → List NumberedLiteral → List Fraction → Option (List Part)
parts_of nodes [] [] = Some []
parts_of nodes (l ∷ ls) (m ∷ ms) = with_part (bound_at nodes l) m (parts_of nodes ls ms)
parts_of nodes _ _ = None

abbrev pub is_of : List Node → Sort → Part → Bool
is_of nodes a p = is_at nodes a p.bound.left && is_at nodes a p.bound.right

-- the one sort of all sides
abbrev pub if_one_sort : List Node → List Part → Option Sort → Option Sort
if_one_sort nodes ps None = None
if_one_sort nodes ps (Some a) = if list_all (is_of nodes a) ps then Some a else None

abbrev pub sort_of_parts : List Node → List Part → Option Sort
sort_of_parts nodes [] = None
sort_of_parts nodes (p ∷ ps) = if_one_sort nodes (p ∷ ps) (sort_at nodes p.bound.left)

-- of Int, below 0 is at most 0 with 1 more
abbrev pub is_raised : Sort → Relation → Bool
is_raised IntSort BelowZero = true
is_raised s r = false

abbrev pub one_more : Sort → Part → Sums → Outcome Sums
one_more a p s = if is_raised a p.bound.relation then add_constant p.multiplier full s else Done s

abbrev pub add_part : List Node → Sort → Part → Sums → Outcome Sums
add_part nodes a p s =
    read_term nodes (length nodes) p.multiplier full p.bound.left s >>= λ left.
    (read_term nodes (length nodes) p.multiplier minus_one p.bound.right left >>= one_more a p)

abbrev pub add_all : List Node → Sort → List Part → Sums → Outcome Sums
add_all nodes a [] s = Done s
add_all nodes a (p ∷ ps) s = add_part nodes a p s >>= add_all nodes a ps

abbrev pub is_zero : Fraction → Bool
is_zero a = int_eq a.numerator (pos 0)

abbrev pub is_above : Fraction → Bool
is_above a = int_lt (pos 0) a.numerator

abbrev pub is_equation : Relation → Bool
is_equation IsZero = true
is_equation AtMostZero = false
is_equation BelowZero = false

abbrev pub is_below : Relation → Bool
is_below BelowZero = true
is_below AtMostZero = false
is_below IsZero = false

-- multipliers are at least 0 except on equations
abbrev pub may_multiply : Part → Bool
may_multiply p = is_equation p.bound.relation || int_le (pos 0) p.multiplier.numerator

abbrev pub is_real : Sort → Bool
is_real a = same_sort a RealSort

-- a strict constraint of Real with a multiplier above 0
abbrev pub is_strict : Sort → Part → Bool
is_strict a p = is_real a && (is_below p.bound.relation && is_above p.multiplier)

-- the sum is a constant above 0, or 0 with a strict part
abbrev pub contradicts : Sort → List Part → Sums → Bool
contradicts a ps s = list_all is_zero s.columns && (is_above s.constant || (is_zero s.constant && list_any (is_strict a) ps))

abbrev pub decided : Sort → List Part → Sums → Outcome Sums
decided a ps s = if list_all may_multiply ps && contradicts a ps s then Done s else Misses

abbrev pub cleared : ℕ → Sums
cleared width = record { constant = none; columns = replicate width none }

-- constraints of one sort, with their multipliers
pub record Combination : Type 0 where
  pub sort : Sort
  pub parts : List Part

abbrev pub of_sort : Option Sort → List Part → Option Combination
of_sort (Some a) ps = Some record { sort = a; parts = ps }
of_sort None ps = None

abbrev pub if_parts : List Node → Option (List Part) → Option Combination
if_parts nodes (Some ps) = of_sort (sort_of_parts nodes ps) ps
if_parts nodes None = None

-- no fraction is met here
abbrev pub combination_of : List Node → List NumberedLiteral → List Fraction → Option Combination
combination_of nodes ls ms = if_parts nodes (parts_of nodes ls ms)

-- the sums are those of a contradiction, over columns of this width
abbrev pub refutes : List Node → ℕ → Combination → Outcome Sums
refutes nodes width c = add_all nodes c.sort c.parts (cleared width) >>= decided c.sort c.parts

abbrev pub if_combined : List Node → ℕ → List NumberedLiteral → Option Combination → Outcome (List NumberedLiteral)
if_combined nodes width ls None = Misses
if_combined nodes width ls (Some c) = refutes nodes width c >>= λ s. Done ls

abbrev pub farkas_clause : List Node → ℕ → List NumberedLiteral → List Fraction → Outcome (List NumberedLiteral)
farkas_clause nodes width ls ms = if_combined nodes width ls (combination_of nodes ls ms)

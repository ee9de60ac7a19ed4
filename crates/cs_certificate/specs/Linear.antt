-- Linear combinations of constraints.
use Rattle.std.specs.Prelude.{◌≡◌, pos, negsuc, cond, List, [], ◌∷◌, ◌++◌, Option, Some, None}
use Rattle.vx_frac.specs.Fractions.{Fraction, full, whole, sum, product}
use Rattle.vx_terms.specs.Sorts.{Sort, IntSort, Add, Subtract, Multiply}
use Rattle.vx_terms.specs.Terms.{Term, Number, Part, Binary, same}

abbrev pub minus_one : Fraction
minus_one = whole (negsuc 0)

-- a multiple of a column, or of 1 where there is none
pub record Multiple : Type 0 where
  pub amount : Fraction
  pub column : Option Term

abbrev pub constant : Fraction → List Multiple
constant q = record { amount = q; column = None } ∷ []

abbrev pub of_column : Fraction → Term → List Multiple
of_column q t = record { amount = q; column = Some t } ∷ []

abbrev pub literal : Term → Option Fraction
literal (Number z) = Some (whole z)
literal (Part a) = Some a
literal t = None

-- a product of a literal and another term, by the literals of both
abbrev pub multiple_by : Option Fraction → Option Fraction → (Fraction → List Multiple) → (Fraction → List Multiple) → List Multiple → List Multiple
multiple_by (Some z) m on_right on_left neither = on_right z
multiple_by None (Some z) on_right on_left neither = on_left z
multiple_by None None on_right on_left neither = neither

-- a term that is read with a factor
abbrev pub linear : Fraction → Term → List Multiple
linear q (Number z) = constant (product q (whole z))
linear q (Part a) = constant (product q a)
linear q (Binary Add a b) = linear q a ++ linear q b
linear q (Binary Subtract a b) = linear q a ++ linear (product q minus_one) b
linear q (Binary Multiply a b) = multiple_by (literal a) (literal b) (λ z. linear (product q z) b) (λ z. linear (product q z) a) (of_column q (Binary Multiply a b))
linear q t = of_column q t

-- what left less right is
pub data Relation : Type 0 where
  AtMostZero BelowZero IsZero : Relation

pub record Constraint : Type 0 where
  pub left : Term
  pub right : Term
  pub relation : Relation

-- of Int, below 0 is at most 0 with 1 more
abbrev pub one_more : Sort → Relation → List Multiple
one_more IntSort BelowZero = constant full
one_more s r = []

-- left less right, read with the factors 1 and -1
abbrev pub read : Sort → Constraint → List Multiple
read s c = linear full c.left ++ linear minus_one c.right ++ one_more s c.relation

pub record Row : Type 0 where
  pub multiplier : Fraction
  pub constraint : Constraint

pub record Column : Type 0 where
  pub term : Term
  pub amount : Fraction

pub record Total : Type 0 where
  pub constant : Fraction
  pub columns : List Column

abbrev pub add_column : Term → Fraction → List Column → List Column
add_column t q [] = record { term = t; amount = sum (whole (pos 0)) q } ∷ []
add_column t q (c ∷ cs) = cond (same t c.term) (record { term = c.term; amount = sum c.amount q } ∷ cs) (c ∷ add_column t q cs)

abbrev pub add_part : Fraction → Total → Multiple → Total
add_part m total p =
    elim p.column [
      | Some t ↦ record total { columns = add_column t (product p.amount m) total.columns }
      | None ↦ record total { constant = sum total.constant (product p.amount m) }
    ]

abbrev pub add_parts : Fraction → Total → List Multiple → Total
add_parts m total [] = total
add_parts m total (p ∷ ps) = add_parts m (add_part m total p) ps

abbrev pub add_rows : Sort → Total → List Row → Total
add_rows s total [] = total
add_rows s total (r ∷ rs) = add_rows s (add_parts r.multiplier total (read s r.constraint)) rs

abbrev pub combination : Sort → List Row → Total
combination s rows = add_rows s record { constant = whole (pos 0); columns = [] } rows

abbrev pub IsZeroFraction : Fraction → Type 0
IsZeroFraction a = a.numerator ≡ pos 0

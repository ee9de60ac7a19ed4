-- Sums of terms by number: they stop at the first fraction that leaves 128 bits.
use Rattle.std.specs.Prelude.{ℕ, zero, suc, if◌then◌else◌, List, [], ◌∷◌, Option, Some, None, slice_get, slice_set, slice_index_or}
use Rattle.vx_frac.specs.Fractions.{Fraction, none, whole, lowest, sum, product, sum_fits, product_fits}
use Rattle.vx_frac.specs.declared.Op.{Op}
use Rattle.vx_frac.specs.declared.Op.TheVariants as calls
use Rattle.vx_terms.specs.Sorts.{Operator, Add, Subtract, Multiply}
use Rattle.cs_certificate.specs.Terms.{Head, NumberHead, PartHead, BinaryHead}
use Rattle.cs_certificate.specs.Linear.{minus_one}
use Rattle.cs_certificate.specs.Nodes.{Node}

-- the call that leaves 128 bits
pub record Over : Type 0 where
  pub call : Op
  pub left : Fraction
  pub right : Fraction

pub data Outcome (A : Type 0) : Type 0 where
  Done : A → Outcome A
  Leaves : Over → Outcome A
  Misses : Outcome A

infixl 10 ◌>>=◌
abbrev pub ◌>>=◌ : {A B : Type 0} → Outcome A → (A → Outcome B) → Outcome B
(Done x) >>= f = f x
(Leaves o) >>= f = Leaves o
Misses >>= f = Misses

-- by the calls of fractions
abbrev pub times : Fraction → Fraction → Outcome Fraction
times a b = if product_fits a b then Done (lowest (product a b)) else Leaves record { call = calls.Mul; left = a; right = b }

abbrev pub plus : Fraction → Fraction → Outcome Fraction
plus a b = if sum_fits a b then Done (lowest (sum a b)) else Leaves record { call = calls.Add; left = a; right = b }

-- the sum without a column, and those of the columns by their numbers
pub record Sums : Type 0 where
  pub constant : Fraction
  pub columns : List Fraction

-- an amount times the multiplier is added
abbrev pub add_constant : Fraction → Fraction → Sums → Outcome Sums
add_constant m q s = times q m >>= λ p. (plus s.constant p >>= λ c. Done record s { constant = c })

abbrev pub add_column : Fraction → Fraction → ℕ → Sums → Outcome Sums
add_column m q k s = times q m >>= λ p. (plus (slice_index_or s.columns k none) p >>= λ c. Done record s { columns = slice_set s.columns k c })

-- how a numbered term is read: as a literal, by its parts, or as a column
pub data Reading : Type 0 where
  Literal : Fraction → Reading
  Sum : ℕ → ℕ → Reading
  Difference : ℕ → ℕ → Reading
  Multiple : Fraction → ℕ → Reading
  Column : Reading

abbrev pub literal_of : Head → Option Fraction
literal_of (NumberHead z) = Some (whole z)
literal_of (PartHead a) = Some a
literal_of h = None

abbrev pub literal_at : List Node → ℕ → Option Fraction
literal_at nodes k = elim (slice_get nodes k) [ Some n ↦ literal_of n.head | None ↦ None ]

-- a product with a literal; of two, the left one counts
abbrev pub multiple : Option Fraction → Option Fraction → ℕ → ℕ → Reading
multiple (Some z) m a b = Multiple z b
multiple None (Some z) a b = Multiple z a
multiple None None a b = Column

abbrev pub of_operator : List Node → Operator → ℕ → ℕ → Reading
of_operator nodes Add a b = Sum a b
of_operator nodes Subtract a b = Difference a b
of_operator nodes Multiply a b = multiple (literal_at nodes a) (literal_at nodes b) a b
of_operator nodes o a b = Column

abbrev pub of_parts : List Node → Operator → List ℕ → Reading
of_parts nodes o (a ∷ b ∷ []) = of_operator nodes o a b
of_parts nodes o ps = Column

abbrev pub of_head : List Node → Head → List ℕ → Reading
of_head nodes (NumberHead z) ps = Literal (whole z)
of_head nodes (PartHead a) ps = Literal a
of_head nodes (BinaryHead o) ps = of_parts nodes o ps
of_head nodes h ps = Column

-- a term that is so read, with a factor
abbrev pub read_as : (Fraction → ℕ → Sums → Outcome Sums) → Fraction → Fraction → ℕ → Sums → Reading → Outcome Sums
read_as deeper m q t s (Literal a) = times q a >>= λ p. add_constant m p s
read_as deeper m q t s (Sum a b) = deeper q a s >>= λ left. deeper q b left
read_as deeper m q t s (Difference a b) = deeper q a s >>= λ left. (times q minus_one >>= λ r. deeper r b left)
read_as deeper m q t s (Multiple z a) = times q z >>= λ r. deeper r a s
read_as deeper m q t s Column = add_column m q t s

abbrev pub read_node : List Node → (Fraction → ℕ → Sums → Outcome Sums) → Fraction → Fraction → ℕ → Sums → Option Node → Outcome Sums
read_node nodes deeper m q t s None = Misses
read_node nodes deeper m q t s (Some n) = read_as deeper m q t s (of_head nodes n.head n.parts)

-- at most so many layers of sums and products
abbrev pub read_term : List Node → ℕ → Fraction → Fraction → ℕ → Sums → Outcome Sums
read_term nodes zero m q t s = Misses
read_term nodes (suc n) m q t s = read_node nodes (read_term nodes n m) m q t s (slice_get nodes t)

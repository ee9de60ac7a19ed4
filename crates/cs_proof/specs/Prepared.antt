-- What is prepared for a step by numbers: its duty, and the clause that it then derives.
use Rattle.std.specs.Prelude.{ℕ, Bool, true, false, nat_lt, ◌^◌, if◌then◌else◌, List, [], ◌∷◌, map, length, Option, Some, None, slice_get}
use Rattle.std.specs.List.{list_all}
use Rattle.vx_frac.specs.Fractions.{Fraction}
use Rattle.vx_terms.specs.Sorts.{BoolSort, same_sort}
use Rattle.cs_certificate.specs.Certificate.{Sign, Plain, Negated, NumberedLiteral, Step, Input, Define, Pick, Chain, Congruence, Farkas, Split, Trichotomy, Divide, Propagate}
use Rattle.cs_certificate.specs.Nodes.{Node}
use Rattle.cs_certificate.specs.Steps.{◌>>=◌, define_clause, pick_clause, chain_clause, congruence_clause, split_clause, trichotomy_clause, divide_clause}
use Rattle.cs_numbers.specs.Numbering.{input_clause}
use Rattle.cs_certificate.specs.declared.literal.Literal.{Literal}
use Rattle.cs_farkas.specs.Rows.{Combination, combination_of}

-- a number of 32 bits; there are fewer terms
abbrev pub narrow : ℕ → Option ℕ
narrow n = if nat_lt n (2 ^ 32) then Some n else None

abbrev pub narrow_all : List ℕ → Option (List ℕ)
narrow_all [] = Some []
narrow_all (n ∷ ns) = narrow n >>= λ m. (narrow_all ns >>= λ ms. Some (m ∷ ms))

abbrev pub narrow_literal : NumberedLiteral → Option NumberedLiteral
narrow_literal l = narrow l.number >>= λ n. Some record { sign = l.sign; number = n }

abbrev pub narrow_literals : List NumberedLiteral → Option (List NumberedLiteral)
narrow_literals [] = Some []
narrow_literals (l ∷ ls) = narrow_literal l >>= λ k. (narrow_literals ls >>= λ ks. Some (k ∷ ks))

-- a hint that names no clause may name any other that there isn't
abbrev pub saturate : ℕ → ℕ
saturate n = if nat_lt n (2 ^ 32) then n else 4294967295

abbrev pub is_plain : Sign → Bool
is_plain Plain = true
is_plain Negated = false

-- literals of the first n terms
abbrev pub one_within : ℕ → NumberedLiteral → Option Literal
one_within n l = if nat_lt l.number n then Some record { positive = is_plain l.sign; number = l.number } else None

abbrev pub within : ℕ → List NumberedLiteral → Option (List Literal)
within n [] = Some []
within n (l ∷ ls) = one_within n l >>= λ k. (within n ls >>= λ ks. Some (k ∷ ks))

abbrev pub other_sign : Sign → Sign
other_sign Plain = Negated
other_sign Negated = Plain

abbrev pub turned : NumberedLiteral → NumberedLiteral
turned l = record { sign = other_sign l.sign; number = l.number }

abbrev pub is_bool_at : List Node → ℕ → Bool
is_bool_at nodes k = elim (slice_get nodes k) [ Some n ↦ same_sort n.sort BoolSort | None ↦ false ]

abbrev pub is_bool : List Node → NumberedLiteral → Bool
is_bool nodes l = is_bool_at nodes l.number

-- what a step has to show
pub data Duty : Type 0 where
  -- nothing more
  Named Derived : Duty
  -- it can't
  Missed : Duty
  -- the constraints, over so many terms, add up to a contradiction
  Sum : (terms : ℕ) → Combination → Duty
  -- the hints refute what is assumed
  Hints : (assumed : List Literal) → (hints : List ℕ) → Duty

-- the clause of a step that has nothing more to show
abbrev pub clause_by : List Node → (roots : List ℕ) → Step → Option (List NumberedLiteral)
clause_by nodes roots (Input n) = narrow n >>= input_clause roots
clause_by nodes roots (Define t k) = narrow t >>= λ t. (narrow k >>= define_clause nodes t)
clause_by nodes roots (Pick t k) = narrow t >>= λ t. (narrow k >>= pick_clause nodes t)
clause_by nodes roots (Chain ns) = narrow_all ns >>= chain_clause nodes
clause_by nodes roots (Congruence s t) = narrow s >>= λ s. (narrow t >>= congruence_clause nodes s)
clause_by nodes roots (Split t z) = narrow t >>= λ t. split_clause nodes t z
clause_by nodes roots (Trichotomy a b) = narrow a >>= λ a. (narrow b >>= trichotomy_clause nodes a)
clause_by nodes roots (Divide a d k) = narrow a >>= λ a. (narrow d >>= λ d. (narrow k >>= divide_clause nodes a d))
clause_by nodes roots step = None

abbrev pub with_literals : Duty → Option (List Literal) → Option (Duty × List Literal)
with_literals d o = o >>= λ ls. Some (d, ls)

abbrev pub derived : List Node → Option (List NumberedLiteral) → Option (Duty × List Literal)
derived nodes o = o >>= λ ns. with_literals Derived (within (length nodes) ns)

abbrev pub sum : List Node → List NumberedLiteral → List Fraction → Option (Duty × List Literal)
sum nodes ls ms = narrow_literals ls >>= λ ns. (combination_of nodes ns ms >>= λ c. with_literals (Sum (length nodes) c) (within (length nodes) ns))

abbrev pub if_all_bool : List Node → List NumberedLiteral → Option (Duty × List Literal) → Option (Duty × List Literal)
if_all_bool nodes ns o = if list_all (is_bool nodes) ns then o else None

abbrev pub propagation : List Node → List NumberedLiteral → List ℕ → Option (Duty × List Literal)
propagation nodes ls hs = narrow_literals ls >>= λ ns. if_all_bool nodes ns (within (length nodes) (map turned ns) >>= λ assumed. with_literals (Hints assumed (map saturate hs)) (within (length nodes) ns))

abbrev pub prepared : List Node → (roots : List ℕ) → Step → Option (Duty × List Literal)
prepared nodes roots (Farkas ls ms) = sum nodes ls ms
prepared nodes roots (Propagate ls hs) = propagation nodes ls hs
prepared nodes roots step = derived nodes (clause_by nodes roots step)

-- a step that is none has neither
abbrev pub clause_of : List Node → (roots : List ℕ) → Option Step → Option (List NumberedLiteral)
clause_of nodes roots w = w >>= clause_by nodes roots

abbrev pub prepared_of : List Node → (roots : List ℕ) → Option Step → Option (Duty × List Literal)
prepared_of nodes roots w = w >>= prepared nodes roots

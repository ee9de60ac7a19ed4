-- What bounds say of an assignment, and a contradiction of bounds over rows.
use Rattle.std.specs.Prelude.{◌≡◌, ℕ, Bool, true, false, List, [], ◌∷◌, Option, Some, slice_get, All}
use Rattle.vx_frac.specs.Fractions.{Fraction, none}
use Rattle.vx_frac.specs.Fraction.{fraction}
use Rattle.cs_linear.specs.Numbers.{plus, times}
use Rattle.cs_linear.specs.Amounts.{Amount, pair, amount, is_less, is_broken_by, has_room_by, has_sign}
use Rattle.cs_linear.specs.Rows.{Assignment, Solves}
use Rattle.cs_linear.specs.declared.rows.Row.{Row}
use Rattle.cs_linear.specs.declared.bounds.Side.{Side}
use Rattle.cs_linear.specs.declared.bounds.Bound.{Bound}
use Rattle.cs_linear.specs.declared.bounds.Part.{Part}

-- two assignments as one: of the numbers, and of the multiples
abbrev pub amount_at : Assignment → Assignment → ℕ → Amount
amount_at a d k = pair (a k) (d k)

abbrev pub is_broken : Assignment → Assignment → Bound → Bool
is_broken a d b = is_broken_by b.side (amount b.limit) (amount_at a d b.column)

abbrev pub Meets : List Bound → Assignment → Assignment → Type 0
Meets bounds a d = (i : ℕ) (b : Bound) → slice_get bounds i ≡ Some b → is_broken a d b ≡ false

abbrev pub IsAmong : Bound → List Bound → Type 0
IsAmong b bounds = (i : ℕ) × (slice_get bounds i ≡ Some b)

-- the columns of the bounds, each times its multiplier
abbrev pub columns : List Part → Assignment → Fraction
columns [] a = none
columns (p ∷ ps) a = plus (times (fraction p.multiplier) (a p.bound.column)) (columns ps a)

-- the limits of the bounds, each times its multiplier
abbrev pub limits : List Part → (Bound → Fraction) → Fraction
limits [] f = none
limits (p ∷ ps) f = plus (times (fraction p.multiplier) (f p.bound)) (limits ps f)

abbrev pub main_of : Bound → Fraction
main_of b = fraction b.limit.main

abbrev pub delta_of : Bound → Fraction
delta_of b = fraction b.limit.delta

-- an asserted bound, with a multiplier above 0 where it says at least, and below 0 where it says at most
pub record IsPart (bounds : List Bound) (p : Part) : Type 0 where
  pub among : IsAmong p.bound bounds
  pub sign : has_sign p.bound.side (fraction p.multiplier) ≡ true

-- Farkas' lemma: over the rows the weighted columns add up to 0, and by the bounds to at least the weighted limits, which are above 0
pub record IsContradiction (rows : List Row) (bounds : List Bound) (ps : List Part) : Type 0 where
  pub parts : All (IsPart bounds) ps
  pub cancels : (a : Assignment) → Solves rows a → columns ps a ≡ none
  pub beyond : is_less (pair none none) (pair (limits ps main_of) (limits ps delta_of)) ≡ true

-- a part whose column can't go on toward its limit
pub record IsBlocking (bounds : List Bound) (a d : Assignment) (p : Part) : Type 0 where
  pub part : IsPart bounds p
  pub full : has_room_by p.bound.side (amount p.bound.limit) (amount_at a d p.bound.column) ≡ false

-- by column an asserted bound of this side, where there is one
pub record IsOf (side : Side) (bounds : List Bound) (k : ℕ) (b : Bound) : Type 0 where
  pub among : IsAmong b bounds
  pub column : b.column ≡ k
  pub same_side : b.side ≡ side

abbrev pub IsTable : Side → List Bound → List (Option Bound) → Type 0
IsTable side bounds table = (k : ℕ) (b : Bound) → slice_get table k ≡ Some (Some b) → IsOf side bounds k b

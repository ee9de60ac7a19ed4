-- The steps to the tightest bounds, and which columns are still to be compared with theirs.
use Rattle.std.specs.Prelude.{[], ◌∷◌, ◌≡◌, ◌⊎◌, ℕ, Bool, true, false, List, Option, Some, None, slice_get, slice_set, length, ◌<◌}
use Rattle.vx_frac.specs.declared.Frac.{Frac}
use Rattle.cs_linear.specs.Amounts.{Amount, amount, is_broken_by, has_room_by}
use Rattle.cs_linear.specs.Rows.{Assignment}
use Rattle.cs_linear.specs.Values.{values}
use Rattle.cs_linear.specs.Contradictions.{amount_at}
use Rattle.cs_linear.specs.declared.bounds.Side.{Side}
use Rattle.cs_linear.specs.declared.bounds.Bound.{Bound}
use Rattle.cs_linear.specs.declared.limits.Limits.{Limits}
use Rattle.cs_linear.specs.declared.values.Move.{Move}

-- a bound says more than another one, or there is no other
abbrev pub is_tighter : Bound → Option Bound → Bool
is_tighter b None = true
is_tighter b (Some other) = has_room_by other.side (amount other.limit) (amount b.limit)

-- the same table, where a bound of this side isn't tighter; or it is, and stands at its column
abbrev pub IsEntered : Side → Bound → List (Option Bound) → List (Option Bound) → Type 0
IsEntered side b old new =
    ((new ≡ old) × (b.side ≡ side → (o : Option Bound) → slice_get old b.column ≡ Some o → is_tighter b o ≡ false))
    ⊎ ((b.side ≡ side) × (new ≡ slice_set old b.column (Some b)) × ((o : Option Bound) → slice_get old b.column ≡ Some o → is_tighter b o ≡ true))

-- a value that meets what stands at the bound's column meets the bound
pub record IsTold (table : List (Option Bound)) (b : Bound) : Type 0 where
  pub limit : Bound
  pub here : slice_get table b.column ≡ Some (Some limit)
  pub tells : (v : Amount) → is_broken_by limit.side (amount limit.limit) v ≡ false → is_broken_by b.side (amount b.limit) v ≡ false

-- the first n bounds of this side are told
abbrev pub AreTold : ℕ → Side → List Bound → List (Option Bound) → Type 0
AreTold n side bounds table = (i : ℕ) (b : Bound) → i < n → slice_get bounds i ≡ Some b → b.side ≡ side → IsTold table b

-- a value meets a limit, or there is none
abbrev pub IsWithin : Option Bound → Amount → Type 0
IsWithin None v = Unit {0}
IsWithin (Some b) v = is_broken_by b.side (amount b.limit) v ≡ false

-- a value meets what stands at its column
abbrev pub IsWithinAt : List (Option Bound) → ℕ → Amount → Type 0
IsWithinAt table k v = (o : Option Bound) → slice_get table k ≡ Some o → IsWithin o v

pub record IsClear (l : Limits) (mains deltas : Assignment) (k : ℕ) : Type 0 where
  pub lower : IsWithinAt l.lower.items k (amount_at mains deltas k)
  pub upper : IsWithinAt l.upper.items k (amount_at mains deltas k)

-- a limit that its column's value is beyond
pub record IsBeyond (l : Limits) (mains deltas : Assignment) (b : Bound) : Type 0 where
  pub column : ℕ
  pub among : (slice_get l.lower.items column ≡ Some (Some b)) ⊎ (slice_get l.upper.items column ≡ Some (Some b))
  pub broken : is_broken_by b.side (amount b.limit) (amount_at mains deltas column) ≡ true

-- the values of columns that aren't marked meet their limits
abbrev pub ArePending : Limits → Assignment → Assignment → List Bool → Type 0
ArePending l mains deltas marks = (k : ℕ) → slice_get marks k ≡ Some false → IsClear l mains deltas k

-- the columns of moves are marked
abbrev pub marked : List Move → List Bool → List Bool
marked [] marks = marks
marked (m ∷ ms) marks = marked ms (slice_set marks m.column true)

-- columns that aren't marked weren't before, and have their values
pub record AreMarked (mains deltas new_mains new_deltas : List Frac) (marks new : List Bool) : Type 0 where
  pub count : length new ≡ length marks
  pub each : (k : ℕ) → slice_get new k ≡ Some false → (slice_get marks k ≡ Some false) × (values new_mains k ≡ values mains k) × (values new_deltas k ≡ values deltas k)

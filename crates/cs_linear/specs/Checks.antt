-- How a broken bound of a basic column is mended, or which bounds stand against it.
use Rattle.std.specs.Prelude.{◌≡◌, ℕ, pos, Bool, true, false, List, Option, Some, slice_get, All, length}
use Rattle.vx_frac.specs.Fractions.{Fraction, none, full, minus}
use Rattle.vx_frac.specs.Fraction.{fraction}
use Rattle.vx_frac.specs.declared.Frac.{Frac}
use Rattle.cs_linear.specs.Numbers.{plus, times}
use Rattle.cs_linear.specs.Amounts.{Amount, amount, has_room_by}
use Rattle.cs_linear.specs.Rows.{Assignment, multiple, total}
use Rattle.cs_linear.specs.Contradictions.{columns, IsBlocking, IsTable}
use Rattle.cs_linear.specs.Limits.{AreTold}
use Rattle.cs_linear.specs.declared.bounds.Side.{Side}
use Rattle.cs_linear.specs.declared.bounds.Side.TheVariants.{AtLeast, AtMost}
use Rattle.cs_linear.specs.declared.bounds.Bound.{Bound}
use Rattle.cs_linear.specs.declared.bounds.Part.{Part}
use Rattle.cs_linear.specs.declared.limits.Limits.{Limits}
use Rattle.cs_linear.specs.declared.rows.Entry.{Entry}
use Rattle.cs_linear.specs.declared.check.Judged.{Judged}
use Rattle.cs_linear.specs.declared.check.Judged.TheVariants as judged
use Rattle.cs_linear.specs.declared.check.Way.{Way}
use Rattle.cs_linear.specs.declared.check.Way.TheVariants as ways

-- the multiplier of a broken bound, and what its row's factors are multiplied by
abbrev pub own : Side → Fraction
own AtLeast = full
own AtMost = minus full

abbrev pub toward : Side → Fraction
toward AtLeast = minus full
toward AtMost = full

pub record AreLimits (bounds : List Bound) (l : Limits) : Type 0 where
  pub lower : IsTable AtLeast bounds l.lower.items
  pub upper : IsTable AtMost bounds l.upper.items

-- each bound is told by the limit of its side at its column
pub record AreTight (bounds : List Bound) (l : Limits) : Type 0 where
  pub lower : AreTold (length bounds) AtLeast bounds l.lower.items
  pub upper : AreTold (length bounds) AtMost bounds l.upper.items

-- a bound that blocks is the limit, and the value can't go on toward it
abbrev pub IsBlock : Option Bound → Frac → Amount → Judged → Type 0
IsBlock limit q value judged.Idle = ⊥
IsBlock limit q value judged.Moves = Unit {0}
IsBlock limit q value (judged.Blocked p) = (limit ≡ Some p.bound) × (p.multiplier ≡ q) × (has_room_by p.bound.side (amount p.bound.limit) value ≡ false)

pub record IsBlocked (bounds : List Bound) (a d : Assignment) (t : Fraction) (e : Entry) (p : Part) : Type 0 where
  pub blocking : IsBlocking bounds a d p
  pub column : p.bound.column ≡ e.column
  pub multiplier : fraction p.multiplier ≡ times t (fraction e.factor)

-- an idle entry counts for nothing, and one that moves has a factor
abbrev pub IsJudged : List Bound → Assignment → Assignment → Fraction → Entry → Judged → Type 0
IsJudged bounds a d t e judged.Idle = times t (fraction e.factor) ≡ none
IsJudged bounds a d t e judged.Moves = ¬ ((fraction e.factor).numerator ≡ pos 0)
IsJudged bounds a d t e (judged.Blocked p) = IsBlocked bounds a d t e p

-- one entry that doesn't move has its part among the blocking ones
pub record IsMet (bounds : List Bound) (a d : Assignment) (t : Fraction) (old : List Part) (e : Entry) (new : List Part) (moves : Bool) : Type 0 where
  pub moving : moves ≡ true → ¬ ((fraction e.factor).numerator ≡ pos 0)
  pub columns : moves ≡ false → (x : Assignment) → columns new x ≡ plus (columns old x) (times t (multiple e x))
  pub blocking : moves ≡ false → All (IsBlocking bounds a d) old → All (IsBlocking bounds a d) new

abbrev pub IsWay : List Bound → Assignment → Assignment → Fraction → List Entry → Way → Type 0
IsWay bounds a d t es (ways.Moves e) = ((i : ℕ) × (slice_get es i ≡ Some e)) × ¬ ((fraction e.factor).numerator ≡ pos 0)
IsWay bounds a d t es (ways.Stuck ps) = All (IsBlocking bounds a d) ps.items × ((x : Assignment) → columns ps.items x ≡ times t (total es x))

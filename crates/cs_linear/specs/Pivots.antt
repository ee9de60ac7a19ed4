-- What a pivot makes of the rows.
use Rattle.std.specs.Prelude.{◌≡◌, ℕ, List, [], ◌∷◌, Option, Some, None, slice_get, slice_set, length}
use Rattle.cs_linear.specs.Rows.{Assignment, Homes, Holds, AreFree, IsFree, Ascends, total}
use Rattle.cs_linear.specs.Merged.{rest_of}
use Rattle.cs_linear.specs.declared.rows.Row.{Row}

-- a row solved for one of its columns
pub record IsSolved (r : Row) (j : ℕ) (s : Row) : Type 0 where
  pub basic : s.basic ≡ j
  pub there : (a : Assignment) → Holds a r → Holds a s
  pub back : (a : Assignment) → Holds a s → Holds a r
  pub free : (homes : Homes) → IsFree homes r.basic → AreFree homes (rest_of r.entries.items j) → AreFree homes s.entries.items
  pub ascends : Ascends 0 r.entries.items → Ascends 0 s.entries.items

-- a row in which a solved column is replaced by its sum
pub record IsReplaced (r : Row) (j : ℕ) (s : Row) (n : Row) : Type 0 where
  pub basic : n.basic ≡ r.basic
  pub total : (a : Assignment) → Holds a s → total n.entries.items a ≡ total r.entries.items a
  pub free : (homes : Homes) → AreFree homes (rest_of r.entries.items j) → AreFree homes s.entries.items → AreFree homes n.entries.items
  pub ascends : Ascends 0 r.entries.items → Ascends 0 s.entries.items → Ascends 0 n.entries.items

-- what stands in the place of row i: the solved row at its place, and the others with its sum
pub record IsTurned (at : ℕ) (j : ℕ) (s : Row) (i : ℕ) (r : Row) (n : Row) : Type 0 where
  pub here : i ≡ at → (n.basic ≡ s.basic) × (n.entries.items ≡ s.entries.items)
  pub others : ¬ (i ≡ at) → IsReplaced r j s n

pub record AreTurned (at : ℕ) (j : ℕ) (s : Row) (rows : List Row) (new : List Row) : Type 0 where
  pub count : length new ≡ length rows
  pub each : (i : ℕ) (r n : Row) → slice_get rows i ≡ Some r → slice_get new i ≡ Some n → IsTurned at j s i r n

-- the row that is planned, or else the old one
abbrev pub chosen : Option Row → Row → Row
chosen None r = r
chosen (Some n) r = n

pub record ArePlanned (at : ℕ) (j : ℕ) (s : Row) (rows : List Row) (plans : List (Option Row)) : Type 0 where
  pub count : length plans ≡ length rows
  pub each : (i : ℕ) (r : Row) (o : Option Row) → slice_get rows i ≡ Some r → slice_get plans i ≡ Some o → IsTurned at j s i r (chosen o r)

abbrev pub written : List Row → ℕ → Option Row → List Row
written rows i None = rows
written rows i (Some n) = slice_set rows i n

abbrev pub carried : List Row → List (Option Row) → List Row
carried [] os = []
carried (r ∷ rs) [] = r ∷ rs
carried (r ∷ rs) (o ∷ os) = chosen o r ∷ carried rs os

-- one column is free now, and another one basic in its row
pub record IsRehomed (old : Homes) (b : ℕ) (j : ℕ) (at : ℕ) (new : Homes) : Type 0 where
  pub count : length new ≡ length old
  pub left : ¬ (b ≡ j) → slice_get new b ≡ Some None
  pub entered : slice_get new j ≡ Some (Some at)
  pub others : (k : ℕ) → ¬ (k ≡ b) → ¬ (k ≡ j) → slice_get new k ≡ slice_get old k

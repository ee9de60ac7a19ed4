-- How two sums are merged, and what a sum is without a column.
use Rattle.std.specs.Prelude.{◌≡◌, ℕ, suc, nat_eq, if◌then◌else◌, List, [], ◌∷◌, ◌++◌, Some, slice_get, All, ◌<◌, ◌≤◌, ◌+◌, length, drop}
use Rattle.vx_frac.specs.Fractions.{Fraction}
use Rattle.cs_linear.specs.Numbers.{plus, times}
use Rattle.cs_linear.specs.Rows.{Assignment, Homes, IsFree, AreFree, Ascends, factor_at, multiple, total}
use Rattle.cs_linear.specs.declared.rows.Entry.{Entry}
use Rattle.cs_linear.specs.declared.rows.First.{First}

-- a sum without a column
abbrev pub rest_of : List Entry → ℕ → List Entry
rest_of [] j = []
rest_of (e ∷ es) j = if nat_eq e.column j then rest_of es j else e ∷ rest_of es j

abbrev pub kept : List Entry → Entry → ℕ → List Entry
kept es e j = if nat_eq e.column j then es else es ++ e ∷ []

-- none of the first i entries is of this column
pub record IsLooked (es : List Entry) (j : ℕ) (i : ℕ) : Type 0 where
  pub from : ℕ
  pub ascends : Ascends from (drop i es)
  pub factor : factor_at (drop i es) j ≡ factor_at es j
  pub rest : rest_of (drop i es) j ≡ drop i es → rest_of es j ≡ es

abbrev pub AreBelow : ℕ → List Entry → Type 0
AreBelow n es = All (λ e. e.column < n) es

-- a sum so far, and the rests of both that are still to come
pub record IsMerging (sum : List Entry) (ls : List Entry) (rs : List Entry) : Type 0 where
  pub from : ℕ
  pub ascends : Ascends 0 sum
  pub below : AreBelow from sum
  pub left : Ascends from ls
  pub right : Ascends from rs

-- a sum with one entry more
pub record Goes (old : List Entry) (e : Entry) (new : List Entry) : Type 0 where
  pub total : (a : Assignment) → total new a ≡ plus (total old a) (multiple e a)
  pub free : (homes : Homes) → AreFree homes old → IsFree homes e.column → AreFree homes new
  pub ascends : Ascends 0 old → AreBelow e.column old → Ascends 0 new
  pub below : AreBelow e.column old → AreBelow (suc e.column) new

-- an entry from m on, before both of the others
pub record IsAscent (m : ℕ) (e : Entry) (ls : List Entry) (rs : List Entry) : Type 0 where
  pub here : m ≤ e.column
  pub left : Ascends (suc e.column) ls
  pub right : Ascends (suc e.column) rs

-- the next entry of one sum from i on plus a factor times another from j on, and where both go on
pub record IsNext (left : List Entry) (i : ℕ) (q : Fraction) (right : List Entry) (j : ℕ) (n : First) : Type 0 where
  pub some : i + j < n.left + n.right
  pub left_within : n.left ≤ length left
  pub right_within : n.right ≤ length right
  pub total : (a : Assignment) → plus (total (drop i left) a) (times q (total (drop j right) a)) ≡ plus (multiple n.entry a) (plus (total (drop n.left left) a) (times q (total (drop n.right right) a)))
  pub free : (homes : Homes) → AreFree homes left → AreFree homes right → IsFree homes n.entry.column
  pub ascends : (m : ℕ) → Ascends m (drop i left) → Ascends m (drop j right) → IsAscent m n.entry (drop n.left left) (drop n.right right)

-- the entries at i and j are of one column
abbrev pub AreOfOne : List Entry → ℕ → List Entry → ℕ → Type 0
AreOfOne left i right j = (l r : Entry) → slice_get left i ≡ Some l → slice_get right j ≡ Some r → l.column ≡ r.column

-- the entry at i is of a column before that of the one at j
abbrev pub AreBefore : List Entry → ℕ → List Entry → ℕ → Type 0
AreBefore left i right j = (l r : Entry) → slice_get left i ≡ Some l → slice_get right j ≡ Some r → l.column < r.column

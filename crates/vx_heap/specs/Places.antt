-- Where the chunks of a name stand.
use Rattle.std.specs.Prelude.{ℕ, suc, ◌+◌, ◌-◌, ◌*◌, ◌%◌, Bool, true, false, not, nat_eq, nat_lt, if◌then◌else◌, List, [], ◌∷◌, ◌++◌, map, filter, slice_get, Some, None}
use Rattle.std.specs.declared.alloc.Global.{Global}
use Rattle.std.specs.declared.rc.Rc.{Rc}
use Rattle.vx_ast.specs.Syntax.{Name}
use Rattle.vx_heap.specs.declared.chunk.Chunk.{Chunk as Chunk'}
use Rattle.vx_heap.specs.declared.rows.Rows.{Rows}
use Rattle.vx_heap.specs.Names.{name}

abbrev pub row_from : ℕ → Name → ℕ
row_from n [] = n
row_from n (b ∷ bs) = row_from ((n * 31 + b) % 16) bs

-- the row of a name: any numbers would do that depend on the name alone
abbrev pub row_of : Name → ℕ
row_of x = row_from 0 x

-- the row of a chunk
abbrev pub row : Rc Chunk' Global → ℕ
row c = row_of (name c.value.resource)

-- the places at which k stands in a list, counted from n on
abbrev pub places : ℕ → ℕ → List ℕ → List ℕ
places k n [] = []
places k n (m ∷ ms) = if nat_eq m k then n ∷ places k (suc n) ms else places k (suc n) ms

-- the numbers in a row
abbrev pub under : Rows → ℕ → List ℕ
under r k = elim (slice_get r.rows.items k) [ Some numbers ↦ numbers.items | None ↦ [] ]

-- with a further number, if it is of this row
abbrev pub with_number : Bool → List ℕ → ℕ → List ℕ
with_number true ns n = ns ++ n ∷ []
with_number false ns n = ns

-- a place, once the item at n is gone
abbrev pub moved : ℕ → ℕ → ℕ
moved n m = if nat_lt n m then m - 1 else m

-- places, once the item at n is gone
abbrev pub closed_up : ℕ → List ℕ → List ℕ
closed_up n ns = map (moved n) (filter (λ m. not (nat_eq m n)) ns)

-- The numbers under the keys of an index.
use Rattle.std.specs.Prelude.{ℕ, ◌-◌, Bool, true, false, nat_eq, List, [], ◌∷◌, ◌++◌, length, take, Some, None}
use Rattle.std.specs.HashMap.{get}
use Rattle.cs_index.specs.declared.index.Index.{Index}

abbrev pub under : Index → ℕ → List ℕ
under i k = elim (get nat_eq i.rows k) [ Some row ↦ row.items | None ↦ [] ]

abbrev pub with_number : Bool → List ℕ → ℕ → List ℕ
with_number true ns n = ns ++ n ∷ []
with_number false ns n = ns

abbrev pub without_last : Bool → List ℕ → List ℕ
without_last true ns = take (length ns - 1) ns
without_last false ns = ns

-- Reachability over edges between members, who go by their numbers in file order.
use Rattle.std.specs.Prelude.{◌≡◌, ◌<◌, ℕ, zero, suc, Bool, true, false, List, [], ◌∷◌, Vec, All}
use Rattle.std.specs.declared.alloc.Global.{Global}
use Rattle.vx_ast.specs.declared.MemberId.{MemberId}
use Rattle.vx_graph.specs.Listed.{is_in}

-- for each member, in file order, those that it leads to
abbrev pub Rows : Type 0
Rows = List (Vec MemberId Global)

-- each member that is led to is one of so many
abbrev pub InRange : ℕ → Rows → Type 0
InRange n rows = All (λ row. All (λ m. m.0 < n) row.items) rows

-- whether an edge leads from a to b
abbrev pub leads : Rows → ℕ → ℕ → Bool
leads [] a b = false
leads (row ∷ rows) zero b = is_in row.items b
leads (row ∷ rows) (suc a) b = leads rows a b

-- one edge or more lead from a to b
pub data Reaches (rows : Rows) : ℕ → ℕ → Type 0 where
  at_once : {a b : ℕ} → leads rows a b ≡ true → Reaches rows a b
  further : {a b c : ℕ} → leads rows a b ≡ true → Reaches rows b c → Reaches rows a c

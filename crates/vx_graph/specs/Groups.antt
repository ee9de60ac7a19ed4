-- Groups: members that reach one another. Each group goes by one of its members, its root.
use Rattle.std.specs.Prelude.{ℕ, zero, suc, Bool, false, nat_eq, List, [], ◌∷◌, Option, Some, None}
use Rattle.vx_ast.specs.declared.MemberId.{MemberId}
use Rattle.vx_graph.specs.declared.groups.Groups as those

-- for each member the root of its group, and none where it doesn't reach itself
abbrev pub roots : those.Groups → List (Option MemberId)
roots g = g.roots.items

abbrev pub root_at : List (Option MemberId) → ℕ → Option MemberId
root_at [] n = None
root_at (r ∷ rs) zero = r
root_at (r ∷ rs) (suc n) = root_at rs n

abbrev pub is_same : Option MemberId → Option MemberId → Bool
is_same (Some a) (Some b) = nat_eq a.0 b.0
is_same _ _ = false

-- the two members have one group
abbrev pub are_together : List (Option MemberId) → ℕ → ℕ → Bool
are_together rs a b = is_same (root_at rs a) (root_at rs b)

-- Rows, roots and marks by number, and what they tell of members.
use denote.Ref.{Bor}
use Rattle.std.specs.Prelude.{◌≡◌, ◌<◌, ℕ, Bool, false, ◌&&◌, List, [], ◌∷◌, length, get_or, Option, Some, option_map, ⊤, if◌then◌else◌}
use Rattle.vx_ast.specs.declared.Expr as expr
use Rattle.vx_ast.specs.declared.MemberId.{MemberId}
use Rattle.vx_ast.specs.Written.{Expr, Member, Program, written_expr}
use Rattle.vx_graph.specs.Groups.{root_at, are_together}
use Rattle.vx_graph.specs.Listed.{is_in}
use Rattle.vx_graph.specs.Reach.{Rows}
use Rattle.vx_typing.specs.Uses.{uses_by}
use Rattle.vx_typing.specs.Members.{table_of}
use Rattle.vx_typing.specs.GroupFaults.{measures_by, some_below}
use Rattle.vx_typing.specs.Groups.{are_of, in_group, kind_at}
use Rattle.vx_typing.specs.declared.groups.Kinds.{Kinds}

-- each row has those that its member mentions
abbrev pub Tells : Program → Rows → List Member → Type 0
Tells p [] [] = ⊤
Tells p (row ∷ rows) (m ∷ ms) = ((b : ℕ) → is_in row.items b ≡ are_of p b (uses_by m.kind [])) × Tells p rows ms
Tells p _ _ = ⊥

-- these are the roots of a program's groups: one place for each member, each root is a member, and two members have one root
-- where they are of one group
pub record AreRoots (p : Program) (rs : List (Option MemberId)) : Type 0 where
  pub count : length rs ≡ length p
  pub within : (a : ℕ) (r : MemberId) → root_at rs a ≡ Some r → r.0 < length p
  pub groups : (a b : ℕ) → are_together rs a b ≡ in_group p a b

-- in code, the measure of a function
abbrev pub shown : Option (Bor expr.Expr) → Option Expr
shown e = option_map (λ e. written_expr e.now) e

-- the marks of the groups with a measure by an instance, or of those with one by a number
abbrev pub marks : Kinds → Bool → List Bool
marks k by_instance = if by_instance then k.by_instance.items else k.by_number.items

-- a mark for each member: at the root of a group it tells whether one of the first n members is of the group and measures so
pub record AreMarks (p : Program) (rs : List (Option MemberId)) (by_instance : Bool) (n : ℕ) (ms : List Bool) : Type 0 where
  pub count : length ms ≡ length p
  pub told : (a : ℕ) (r : MemberId) → root_at rs a ≡ Some r → get_or ms r.0 false ≡ some_below n (λ b. in_group p a b && measures_by (table_of p) by_instance (kind_at p b))

-- Roots that are right for all members but those that are left.
use Rattle.std.specs.Prelude.{◌≡◌, ℕ, Bool, true, false, List, Option, Some}
use Rattle.vx_ast.specs.declared.MemberId.{MemberId}
use Rattle.vx_graph.specs.Groups.{root_at, are_together}
use Rattle.vx_graph.specs.Listed.{is_marked}
use Rattle.vx_graph.specs.Reach.{Rows, Reaches}

-- the two members reach one another
abbrev pub Together : Rows → ℕ → ℕ → Type 0
Together rows a b = Reaches rows a b × Reaches rows b a

-- a group is left as a whole
abbrev pub IsWhole : Rows → List Bool → Type 0
IsWhole rows left = (a b : ℕ) → Together rows a b → is_marked left a ≡ true → is_marked left b ≡ true

-- the roots tell the groups of those that aren't left, and no others
pub record Rooted (rows : Rows) (roots : List (Option MemberId)) (left : List Bool) : Type 0 where
  pub whole : IsWhole rows left
  pub sound : (a : ℕ) (r : MemberId) → root_at roots a ≡ Some r → Together rows a r.0
  pub complete : (a b : ℕ) → Together rows a b → is_marked left a ≡ false → are_together roots a b ≡ true

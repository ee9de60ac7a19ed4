-- The members that are mentioned, while the parts of a function are walked.
use Rattle.std.specs.Prelude.{◌≡◌, ℕ, Bool, ◌||◌, List, ◌++◌}
use Rattle.vx_ast.specs.declared.MemberId.{MemberId}
use Rattle.vx_ast.specs.Syntax.{Name, Program}
use Rattle.vx_graph.specs.Listed.{is_in}
use Rattle.vx_settling.specs.Mentioned.{are_of}

-- member b is in the row, or one of these names is its own
unfoldable pub found : Program → List MemberId → List Name → ℕ → Bool
found p row names b = is_in row b || are_of p b names

-- the members that these names stand for are added to the row, whatever further names there are
abbrev pub Finds : Program → List Name → List MemberId → List MemberId → Type 0
Finds p names old new = (rest : List Name) → found p new rest ≡ found p old (names ++ rest)

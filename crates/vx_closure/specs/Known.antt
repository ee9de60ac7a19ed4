-- Which members mention which, while the parts of a member are walked.
use Rattle.std.specs.Prelude.{◌≡◌, ℕ, Bool, ◌||◌, ◌&&◌, nat_eq, List, ◌++◌}
use Rattle.vx_ast.specs.Syntax.{Name, Program}
use Rattle.vx_graph.specs.Reach.{Rows, leads}
use Rattle.vx_closure.specs.Mentioners.{are_of}

-- member b is mentioned by member c: the rows say so, or c is member a, which mentions these names besides
unfoldable pub known : Program → Rows → ℕ → List Name → ℕ → ℕ → Bool
known p rows a names b c = leads rows b c || (nat_eq a c && are_of p b names)

-- member a is added to the rows of those that these names stand for, whatever further names it mentions
abbrev pub Adds : Program → ℕ → List Name → Rows → Rows → Type 0
Adds p a names old new = (rest : List Name) → known p new a rest ≡ known p old a (names ++ rest)

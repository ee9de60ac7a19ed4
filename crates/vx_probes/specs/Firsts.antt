-- What is read and taken in the first candidate that is as wanted.
use Rattle.std.specs.Prelude.{[], ◌∷◌}
use Rattle.vx_ast.specs.declared.Place.{Place}
use Rattle.vx_ast.specs.Syntax.{Name}
use Rattle.vx_rules.specs.Chunks.{candidates, field_key, holds_amount, holds_some, reduced}
use Rattle.vx_rules.specs.Rules.{Giving, first_with, never, take_fresh}
use Rattle.vx_rules.specs.States.{Chunk, State, with_heap}
use Rattle.vx_rules.specs.Trees.{Code, PermissionCode, Tree}
use Rattle.vx_terms.specs.Sorts.{Sort}
use Rattle.vx_terms.specs.Terms.{Term}

abbrev pub read_first : Name → Term → Place → State → Giving → Tree
read_first f r at s on =
    first_with (holds_some (r ∷ [])) (candidates (field_key f r) s.heap) at PermissionCode s (λ c. on c.chunk.value s) (never at PermissionCode s)

abbrev pub take_first : Chunk → Term → Sort → Place → Code → State → (Chunk → State → Tree) → Tree
take_first key a sort at code s on =
    first_with (holds_amount a key.arguments) (candidates key s.heap) at code s (λ c. on c.chunk (with_heap (reduced c a s.heap) s)) (take_fresh key a sort at code s on)

-- What the paths of src/ stand for.
use Rattle.std.specs.Prelude.{Bool, true, false, List, [], ◌∷◌, ◌++◌}
use Rattle.vx_terms.specs.Terms.{Term}
use Rattle.vx_heap.specs.Views.{held_term}
use Rattle.vx_states.specs.declared.path.Path.{Path}
use Rattle.vx_states.specs.declared.path.Path.TheVariants as path'
use Rattle.vx_rules.specs.States.{Entry}

-- a path and one more entry
abbrev pub extended : List Entry → Term → Bool → List Entry
extended es t branch = es ++ record { term = t; branch = branch } ∷ []

-- the entries of a path, the oldest first; their segments are left out, since no rule looks at them
abbrev pub entries : Path → List Entry
entries path'.Empty = []
entries (path'.Branch' q before e) = extended (entries before) (held_term e.term) true
entries (path'.Fact' q before e) = extended (entries before) (held_term e.term) false

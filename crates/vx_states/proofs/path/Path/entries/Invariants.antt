use Rattle.std.proofs.Common.{◌≡◌, ◌++◌, map, reverse}
use Rattle.vx_rules.specs.States.{path_terms}
use Rattle.vx_states.specs.Paths.{entries}
use Rattle.vx_heap.specs.Views.{held_term}
use Rattle.vx_states.proofs.path.Path.entries.Given as goal

-- those of the rest, and then those so far from the last on
abbrev pub invariant-entries : goal.invariant-entries
invariant-entries l = path_terms (entries l.self) ≡ path_terms (entries l.rest) ++ map (λ e. held_term e.term) (reverse l.taken.items)

use Rattle.std.proofs.Common.{◌≡◌, ◌++◌, ◌-◌, ◌≤◌, length, map, reverse}
use Rattle.vx_rules.specs.States.{path_terms}
use Rattle.vx_states.specs.Paths.{entries}
use Rattle.vx_heap.specs.Views.{held_term}
use Rattle.vx_states.proofs.path.Path.newest.Given as goal

-- those of the rest, and then those so far from the last on, of which there aren't more than are wanted
abbrev pub invariant-entries : goal.invariant-entries
invariant-entries l = (path_terms (entries l.self) ≡ path_terms (entries l.rest) ++ map (λ e. held_term e.term) (reverse l.taken.items)) × (length l.taken.items ≤ l.count)

abbrev pub decreases-entries : goal.decreases-entries
decreases-entries l = l.count - length l.taken.items

use Rattle.std.proofs.Common.{◌≡◌, ◌-◌, ◌++◌, length, map, reverse}
use Rattle.vx_states.specs.Paths.{entries}
use Rattle.vx_states.specs.Views.{entry}
use Rattle.vx_states.proofs.entries.newest.Given as goal

-- those of the rest, and then those so far from the last on; and how many are left in front of the wanted ones
abbrev pub invariant-entries : goal.invariant-entries
invariant-entries l = (entries l.path ≡ entries l.rest ++ map entry (reverse l.taken.items)) × (length (entries l.rest) - l.left ≡ length (entries l.path) - l.count)

abbrev pub decreases-entries : goal.decreases-entries
decreases-entries l = l.left

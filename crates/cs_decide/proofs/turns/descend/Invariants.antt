use Rattle.std.proofs.Common.{◌<◌, ◌^◌, length}
use Rattle.cs_search.specs.Extended.{unset_count}
use Rattle.cs_search.specs.Search.{IsReady}
use Rattle.cs_decide.proofs.turns.descend.Given as goal

abbrev pub invariant-loop-conflict : goal.invariant-loop-conflict
invariant-loop-conflict l = IsReady l.search × (length l.search.made.values.items < 2 ^ 32)

abbrev pub decreases-loop-conflict : goal.decreases-loop-conflict
decreases-loop-conflict l = unset_count l.search.made.values.items

use Rattle.std.proofs.Common.{◌-◌, ◌+◌, vec_len}
use Rattle.cs_search.specs.Widened.{IsWidened}
use Rattle.cs_search.proofs.add.reach.Given as goal

abbrev pub invariant-loop-values : goal.invariant-loop-values
invariant-loop-values l = IsWidened l.initial.values.items l.values.items

abbrev pub decreases-loop-values : goal.decreases-loop-values
decreases-loop-values l = (l.atom + 1) - vec_len l.values

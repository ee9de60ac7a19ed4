use Rattle.std.proofs.Common.{◌≡◌, ◌++◌, take}
use Rattle.cs_search.specs.Learned.{before}
use Rattle.cs_search.proofs.analyse.push_all_before.Given as goal

abbrev pub invariant-loop-literal : goal.invariant-loop-literal
invariant-loop-literal l = l.list.items ≡ l.initial.list.items ++ before l.values l.k (take l.literal-index l.met)

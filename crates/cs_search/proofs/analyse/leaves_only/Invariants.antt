use Rattle.std.proofs.Common.{take}
use Rattle.cs_search.specs.Assignment.{LeavesOnly}
use Rattle.cs_search.proofs.analyse.leaves_only.Given as goal

abbrev pub invariant-loop-literal : goal.invariant-loop-literal
invariant-loop-literal l = LeavesOnly l.values l.start (take l.literal-index l.list) l.one

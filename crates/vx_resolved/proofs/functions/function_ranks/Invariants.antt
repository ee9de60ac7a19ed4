use Rattle.std.proofs.Common.{◌≡◌, ◌≤◌, ◌++◌, drop, map}
use Rattle.vx_resolved.specs.Resolved.{member}
use Rattle.vx_resolved.specs.Numbers.{ranks_from}
use Rattle.vx_resolved.proofs.functions.function_ranks.Given as goal

abbrev pub invariant-loop-m : goal.invariant-loop-m
invariant-loop-m l = record {
  few : l.before ≤ l.m-index;
  ranks : l.ranks.items ++ ranks_from l.before (map member (drop l.m-index l.all)) ≡ ranks_from 0 (map member l.all);
}

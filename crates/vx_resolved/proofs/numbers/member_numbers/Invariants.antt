use Rattle.std.proofs.Common.{◌≤◌, length, drop, map}
use Rattle.vx_resolved.specs.Resolved.{member}
use Rattle.vx_resolved.specs.Numbers.{AreNumbers}
use Rattle.vx_resolved.proofs.numbers.member_numbers.Given as goal

abbrev pub invariant-loop-left : goal.invariant-loop-left
invariant-loop-left l = record {
  within : l.left ≤ length l.all;
  numbers : AreNumbers l.numbers l.left (map member (drop l.left l.all));
}

abbrev pub decreases-loop-left : goal.decreases-loop-left
decreases-loop-left l = l.left

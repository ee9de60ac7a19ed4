use Rattle.std.proofs.Common.{◌≡◌, ◌≤◌, drop, length}
use Rattle.vx_ast.specs.Resolve.{expressions}
use Rattle.vx_ast.specs.Written.{written_all}
use Rattle.vx_resolved.specs.Resolved.{exprs}
use Rattle.vx_settling.proofs.expr.+expressions.Given as goal

abbrev pub invariant-expressions-loop-left : goal.invariant-expressions-loop-left
invariant-expressions-loop-left l = record {
  within : l.left ≤ length l.all;
  settled : exprs l.settled.value ≡ expressions (written_all (drop l.left l.all));
}

abbrev pub decreases-expressions-loop-left : goal.decreases-expressions-loop-left
decreases-expressions-loop-left l = l.left

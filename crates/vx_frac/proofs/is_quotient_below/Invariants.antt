use Rattle.std.proofs.Common.{◌*◌, ◌<◌, ◌+◌, ◌↔◌}
use Rattle.vx_frac.proofs.is_quotient_below.Given as goal

abbrev pub invariant-loop-left : goal.invariant-loop-left
invariant-loop-left l = record {
  left : 0 < l.left.1;
  right : 0 < l.right.1;
  same_order : (l.fn.a * l.fn.d < l.fn.c * l.fn.b) ↔ (l.left.0 * l.right.1 < l.right.0 * l.left.1);
}

abbrev pub decreases-loop-left : goal.decreases-loop-left
decreases-loop-left l = l.left.1 + l.right.1

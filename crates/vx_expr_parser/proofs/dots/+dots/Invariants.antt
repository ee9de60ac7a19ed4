use Rattle.std.proofs.Common.{◌+◌, ◌*◌}
use Rattle.vx_expr_parser.proofs.dots.+dots.Given as goal

abbrev pub decreases-dots : goal.decreases-dots
decreases-dots l = 3 * l.room + 1

abbrev pub decreases-dotted : goal.decreases-dotted
decreases-dotted l = 3 * l.room + 2

abbrev pub decreases-nested_dot : goal.decreases-nested_dot
decreases-nested_dot l = 3 * l.room

use Rattle.std.proofs.Common.{rules}
use Rattle.vx_ast.specs.declared.ExprKind as the_kind
use Rattle.vx_expr_parser.proofs.Rows.{call_row}
use Rattle.vx_expr_parser.proofs.made.applied.Goals as goal

pub returns : goal.returns
returns c = search (rules, the_kind.the_lemmas, call_row)

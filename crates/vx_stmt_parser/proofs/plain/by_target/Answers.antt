use Rattle.std.proofs.Common.{rules}
use Rattle.vx_ast.specs.declared.ExprKind as the_kind
use Rattle.vx_expr_parser.proofs.Rows.{call_row}
use Rattle.vx_stmt_parser.proofs.plain.by_target.Goals as goal

pub returns-in-Call : goal.returns-in-Call
returns-in-Call c = search (rules, the_kind.the_lemmas, call_row)

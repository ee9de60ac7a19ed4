use Rattle.std.proofs.Common.{rules}
use Rattle.vx_ast.specs.declared.ExprKind as tree
use Rattle.vx_expressions.proofs.Rows.{call_row}
use Rattle.vx_expressions.proofs.Fails.{passed_on}
use Rattle.vx_typing.proofs.members.measure.Goals as goal

pub returns-in_err-x-in-Call : goal.returns-in_err-x-in-Call
returns-in_err-x-in-Call c = search (rules, tree.the_lemmas, call_row, passed_on)

pub returns-in_ok-x-in-Call : goal.returns-in_ok-x-in-Call
returns-in_ok-x-in-Call c = search (rules, tree.the_lemmas, call_row)

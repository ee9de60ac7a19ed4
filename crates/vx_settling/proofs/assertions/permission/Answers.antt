use Rattle.std.proofs.Common.{rules}
use Rattle.vx_ast.specs.declared.ExprKind.TheViews as tree
use Rattle.vx_settling.proofs.Rows.{call_row}
use Rattle.vx_settling.proofs.assertions.permission.Goals as goal

pub returns-in-Call : goal.returns-in-Call
returns-in-Call c = search (rules, tree.the_lemmas, call_row)

use Rattle.std.proofs.Common.{rules, ◌≡◌, string_bytes}
use Rattle.vx_ast.specs.declared.ExprKind.TheViews as tree
use Rattle.vx_ast.specs.Written as written
use Rattle.vx_ast.specs.Written.{written_expr, written_all}
use Rattle.vx_settling.proofs.Rows.{call_row}
use Rattle.vx_settling.proofs.stmt.of_value.Goals as goal

pub returns-in-Call : goal.returns-in-Call
returns-in-Call c =
    let view : written_expr c.args.e.now ≡ written.Call c.args.e.now.place (string_bytes c.in-Call.name) (written_all c.in-Call.arguments.items) = search (rules, tree.the_lemmas, call_row) in
    search (rules, view)

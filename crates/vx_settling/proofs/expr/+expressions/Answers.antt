use Rattle.std.proofs.Common.{rules, ◌≡◌, string_bytes}
use Rattle.vx_ast.specs.declared.ExprKind.TheViews as tree
use Rattle.vx_ast.specs.Written as written
use Rattle.vx_ast.specs.Written.{written_expr, written_all, written_optional, name_of}
use Rattle.vx_settling.proofs.Rows.{call_row}
use Rattle.vx_settling.proofs.expr.+expressions.Goals as goal

pub expression-returns-in_ok-arguments-in-Call : goal.expression-returns-in_ok-arguments-in-Call
expression-returns-in_ok-arguments-in-Call t c =
    let i = c.in-Call in
    let view : written_expr c.args.e.now ≡ written.Call c.args.e.now.place (string_bytes i.name) (written_all i.arguments.items) = search (rules, tree.the_lemmas, call_row) in
    search (rules, view)

pub expression-returns-in_ok-a-in-Unfolding : goal.expression-returns-in_ok-a-in-Unfolding
expression-returns-in_ok-a-in-Unfolding t c =
    let i = c.in-Unfolding in
    let view : written_expr c.args.e.now ≡ written.Unfolding c.args.e.now.place (name_of i.name) (written_all i.arguments.items) (written_optional i.share) (written_expr i.a.value) = search (rules, tree.the_lemmas, call_row) in
    search (rules, view)

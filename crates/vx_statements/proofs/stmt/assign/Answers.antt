use Rattle.std.proofs.Common.{◌≡◌, rules, sym, subst, true, ap, ◌∙◌}
use Rattle.vx_ast.specs.declared.ExprKind as tree
use Rattle.vx_ast.specs.Written.{name_of, Call, Value, written_right, written_all}
use Rattle.vx_expressions.specs.Gives.{Gives}
use Rattle.vx_expressions.specs.Scopes.{named}
use Rattle.vx_statements.specs.StatementFaults.{is_method}
use Rattle.vx_expressions.specs.Views.{table, known}
use Rattle.vx_expressions.proofs.Rows.{call_row}
use Rattle.vx_statements.proofs.Assigns.{calls}
use Rattle.vx_statements.proofs.stmt.assign.Goals as goal

pub returns-then-is_method : goal.returns-then-is_method
returns-then-is_method c =
    let members = table c.args.members.now.entries in
    let variables = known c.args.variables.now.entries in
    let at = c.deref-then-is_method.result.now.place in
    let m = c.deref-then-is_method-2.result.now in
    let es = written_all c.deref-then-is_method-3.result.now in
    let view : written_right c.args.r.now ≡ Value (Call at m es) = search (rules, tree.the_lemmas, call_row) in
    let same : m ≡ c.deref-in-Call.result.now = search rules in
    let is : is_method (named members m) ≡ true = ap (λ m. is_method (named members m)) same ∙ ap is_method (sym c.member.ensures) ∙ sym c.is_method.ensures ∙ c.if-is_method.true in
    subst (Gives (λ x. tt {0}) c.call_into.result) (sym (calls members variables (name_of c.args.x.now) (written_right c.args.r.now) at m es view is)) c.call_into.ensures

use Rattle.std.proofs.Common.{rules, ◌∙◌, ◌≡◌, sym, ap}
use Rattle.std.proofs.lemmas.Result.{IfOk-weaker}
use Rattle.vx_ast.specs.declared.StmtKind.TheViews as tree
use Rattle.vx_ast.specs.Resolve as resolve
use Rattle.vx_ast.specs.Written.{If, written_stmt, written_expr, written_block, optional_other, written_list}
use Rattle.vx_settling.specs.Parts.{onto, stmts}
use Rattle.vx_settling.specs.Names.{names_in}
use Rattle.vx_ast.proofs.Rows.{rows}
use Rattle.vx_settling.proofs.stmt.+settling.Goals as goal

pub block-returns : goal.block-returns
block-returns t c =
    let names = names_in c.args.names.now in
    let same =
    c.in_ok-statements.ensures
    ∙ ap (λ ss. onto (stmts ss) (resolve.block names (written_list c.deref.result.now))) c.new-done.ensures.items
    ∙ ap (λ l. resolve.block names (written_list l)) c.deref.ensures.value
    ∙ ap (resolve.block names) (sym (rows c.args.b.now)) in
    IfOk-weaker c.linked.result _ _ (λ b is. is ∙ same) c.linked.ensures

pub statement-returns-in_ok-b-in-If : goal.statement-returns-in_ok-b-in-If
statement-returns-in_ok-b-in-If t c =
    let i = c.in-If in
    let k = c.args.s.now.kind in
    let view : written_stmt c.args.s.now.place k ≡ If c.args.s.now.place (written_expr i.c.value) (written_block i.a.value) (optional_other i.b) = search (rules, tree.the_lemmas) in
    search (rules, view)

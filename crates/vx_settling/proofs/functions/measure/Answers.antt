use Rattle.std.proofs.Common.{rules, ◌≡◌, ◌∙◌, true, cond, ap, sym, string_bytes}
use Rattle.vx_ast.specs.declared.ExprKind.TheViews as tree
use Rattle.vx_ast.specs.Written as written
use Rattle.vx_ast.specs.Written.{written_expr, written_all}
use Rattle.vx_settling.proofs.Rows.{call_row}
use Rattle.std.proofs.lemmas.Result.{IfOk-weaker}
use Rattle.vx_ast.specs.Resolve.{expression, expressions, measure}
use Rattle.vx_ast.specs.Syntax.{ByInstance, ByNumber}
use Rattle.vx_resolved.specs.Resolved as resolved
use Rattle.vx_settling.specs.Names.{names_in}
use Rattle.vx_settling.proofs.functions.measure.Goals as goal

pub returns-then-is_predicate : goal.returns-then-is_predicate
returns-then-is_predicate c =
    let view : written_expr c.args.e.now ≡ written.Call c.args.e.now.place (string_bytes c.in-Call.name) (written_all c.in-Call.arguments.items) = search (rules, tree.the_lemmas, call_row) in
    let names = names_in c.args.names.now in
    let i = string_bytes c.in-Call.name in
    let es = written_all c.in-Call.arguments.items in
    let is : names.is_predicate i ≡ true = ap names.is_predicate (sym c.deref.ensures) ∙ sym c.is_predicate.ensures ∙ c.if-is_predicate.true in
    let same : ByInstance c.args.e.now.place c.deref-then-is_predicate.result.now (expressions (written_all c.deref-then-is_predicate-2.result.now)) ≡ measure names (written_expr c.args.e.now) =
    ap (λ y. ByInstance c.args.e.now.place y (expressions (written_all c.deref-then-is_predicate-2.result.now))) c.deref-then-is_predicate.ensures
    ∙ ap (λ y. ByInstance c.args.e.now.place i (expressions (written_all y))) c.deref-then-is_predicate-2.ensures.value
    ∙ sym (ap (λ b. cond b (ByInstance c.args.e.now.place i (expressions es)) (ByNumber (expression (written.Call c.args.e.now.place i es)))) is)
    ∙ sym (ap (measure names) view) in
    IfOk-weaker c.by_instance.result (λ m. resolved.measure m ≡ ByInstance c.args.e.now.place c.deref-then-is_predicate.result.now (expressions (written_all c.deref-then-is_predicate-2.result.now))) (λ m. resolved.measure m ≡ measure names (written_expr c.args.e.now))
    (λ m h. h ∙ same) c.by_instance.ensures

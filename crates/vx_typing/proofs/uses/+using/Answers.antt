use Rattle.std.proofs.Common.{◌≡◌, ◌∙◌, ◌++◌, ◌∷◌, ◌+◌, ap, sym, rules, drop, string_bytes}
use Rattle.std.proofs.lemmas.List.{drop_all}
use Rattle.std.proofs.lemmas.Result.{on_ok_weaker}
use Rattle.vx_ast.specs.declared.ExprKind as tree
use Rattle.vx_ast.specs.declared.Expr as expr
use Rattle.vx_ast.specs.Written.{Call, Unfolding, name_of, written_expr, written_all, written_optional}
use Rattle.vx_typing.specs.Uses as spec
use Rattle.vx_typing.specs.Uses.{calls, unfolds_it}
use Rattle.vx_typing.specs.Seen.{seen}
use Rattle.vx_expressions.proofs.Rows.{call_row}
use Rattle.vx_statements.proofs.Loops.{left}
use Rattle.vx_typing.proofs.uses.+using.Goals as goal

pub uses-returns-in_ok-uses_in-in-Call : goal.uses-returns-in_ok-uses_in-in-Call
uses-returns-in_ok-uses_in-in-Call t c =
    let e = c.args.e.now in
    let k = c.in-Call in
    let before = seen c.args.found.now.items in
    let view : written_expr e ≡ Call e.place (string_bytes k.name) (written_all k.es.items) = search (rules, tree.the_lemmas, call_row) in
    on_ok_weaker c.add_call.result
    (λ added rest.
    added rest ∙ c.in_ok-uses_in-in-Call.ensures (calls e.place c.deref-in-Call.result.now ∷ rest)
    ∙ ap (λ f. before ++ spec.uses_in (written_all c.deref.result.now) (calls e.place f ∷ rest)) c.deref-in-Call.ensures
    ∙ ap (λ es. before ++ spec.uses_in (written_all es) (calls e.place (string_bytes k.name) ∷ rest)) c.deref.ensures.value
    ∙ ap (λ w. before ++ spec.uses w rest) (sym view))
    c.add_call.ensures

pub uses-returns-in_ok-uses-in-Unfolding : goal.uses-returns-in_ok-uses-in-Unfolding
uses-returns-in_ok-uses-in-Unfolding t c =
    let e = c.args.e.now in
    let u = c.in-Unfolding in
    let before = seen c.args.found.now.items in
    let view : written_expr e ≡ Unfolding e.place (name_of u.i) (written_all u.es.items) (written_optional u.amount) (written_expr u.a.value) = search (rules, tree.the_lemmas, call_row) in
    on_ok_weaker c.add_unfolding.result
    (λ added rest.
    added rest
    ∙ c.in_ok-uses-in-Unfolding.ensures _
    ∙ c.in_ok-uses_of-in-Unfolding.ensures _
    ∙ c.in_ok-uses_in-in-Unfolding.ensures _
    ∙ ap (λ es. before ++ spec.uses_in (written_all es) (spec.uses_of (written_optional u.amount) (spec.uses (written_expr c.deref-in-Unfolding-2.result.now) (unfolds_it (name_of u.i) ∷ rest)))) c.deref-in-Unfolding.ensures.value
    ∙ ap (λ (a : expr.Expr). before ++ spec.uses_in (written_all u.es.items) (spec.uses_of (written_optional u.amount) (spec.uses (written_expr a) (unfolds_it (name_of u.i) ∷ rest)))) c.deref-in-Unfolding-2.ensures
    ∙ ap (λ w. before ++ spec.uses w rest) (sym view))
    c.add_unfolding.ensures

pub uses_in-loop-e-preserved : goal.uses_in-loop-e-preserved
uses_in-loop-e-preserved t c = λ rest.
    let es = c.args.es.now in
    let k = c.loop-e.e-index in
    let before = seen c.loop-e.found.items in
    let behind = spec.uses_in (written_all (drop (k + 1) es)) rest in
    c.in_ok-uses.ensures behind
    ∙ ap (λ (e : expr.Expr). before ++ spec.uses (written_expr e) behind) c.deref.ensures
    ∙ ap (λ es. before ++ spec.uses_in (written_all es) rest) (sym (left es k c.e-item.result c.loop-e-test.true c.e-item.is))
    ∙ c.loop-e.invariant rest

pub uses_in-returns : goal.uses_in-returns
uses_in-returns t c = λ rest.
    ap (λ es. seen c.loop-e.found.items ++ spec.uses_in (written_all es) rest) (sym (drop_all _ c.args.es.now c.loop-e-test.false))
    ∙ c.loop-e.invariant rest

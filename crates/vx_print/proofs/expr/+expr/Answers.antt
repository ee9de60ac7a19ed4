use Rattle.std.proofs.Common.{◌∙◌, ap, string_bytes, rules}
use Rattle.vx_ast.specs.declared.ExprKind as tree
use Rattle.vx_ast.specs.Written.{written_expr}
use Rattle.vx_print.specs.Canonical.{next_tokens}
use Rattle.vx_print.specs.Words.{behind}
use Rattle.vx_print.proofs.Behind.{behind_append, call_row, more_further}
use Rattle.vx_print.proofs.expr.+expr.Goals as goal

pub put_expr-returns-in-Call : goal.put_expr-returns-in-Call
put_expr-returns-in-Call t c = search (rules, tree.the_lemmas, call_row)

pub put_expr-returns-in_ok-put_expr-in-Unfolding : goal.put_expr-returns-in_ok-put_expr-in-Unfolding
put_expr-returns-in_ok-put_expr-in-Unfolding t c = search (rules, tree.the_lemmas, call_row, behind_append)

pub put_exprs-loop-e-preserved : goal.put_exprs-loop-e-preserved
put_exprs-loop-e-preserved t c =
    let now = string_bytes c.loop-e.out in
    let same = c.in_ok-put_next.ensures ∙ ap (λ x. behind now (next_tokens (written_expr x))) (c.deref-in-loop-e.ensures ∙ ap (λ r. r.value) c.e-item.is) in
    more_further now (string_bytes c.put_next.new.out) c.in-Some.rest.now c.loop-e.e-index c.e-item.result c.loop-e-test.true same ∙ c.loop-e.invariant

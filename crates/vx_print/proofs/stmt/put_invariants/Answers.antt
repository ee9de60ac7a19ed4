use Rattle.std.proofs.Common.{◌∙◌, ap, string_bytes}
use Rattle.vx_ast.specs.Written.{written_expr}
use Rattle.vx_print.specs.Canonical.{clause_tokens}
use Rattle.vx_tokens.specs.declared.token.Word.TheVariants as words
use Rattle.vx_print.specs.Words.{behind}
use Rattle.vx_print.proofs.Behind.{more_invariants}
use Rattle.vx_print.proofs.stmt.put_invariants.Goals as goal

pub loop-e-preserved : goal.loop-e-preserved
loop-e-preserved c =
    let now = string_bytes c.loop-e.out in
    let same = c.in_ok-put_clause.ensures ∙ ap (λ x. behind now (clause_tokens words.Invariant (written_expr x))) (c.deref.ensures ∙ ap (λ r. r.value) c.e-item.is) in
    more_invariants now (string_bytes c.put_clause.new.out) c.args.es.now c.loop-e.e-index c.e-item.result c.loop-e-test.true same ∙ c.loop-e.invariant

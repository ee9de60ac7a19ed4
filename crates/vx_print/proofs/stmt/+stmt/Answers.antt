use Rattle.std.proofs.Common.{◌∙◌, ap, ap₂, sym, string_bytes, [], ◌∷◌, rules}
use Rattle.vx_ast.specs.Written.{written_stmt, written_block, Then, Done}
use Rattle.vx_tokens.specs.declared.token.Symbol.TheVariants as signs
use Rattle.vx_tokens.specs.Tokens.{symbol}
use Rattle.vx_print.specs.Canonical.{stmt_tokens, block_tokens, braced, else_tokens, else_block}
use Rattle.vx_print.specs.Views.{statements}
use Rattle.vx_print.specs.Words.{behind}
use Rattle.vx_print.proofs.Behind.{more_stmts, block_is, behind_append, else_one, else_many}
use Rattle.vx_print.proofs.stmt.+stmt.Goals as goal

pub put_stmts-loop-s-preserved : goal.put_stmts-loop-s-preserved
put_stmts-loop-s-preserved t c =
    let now = string_bytes c.loop-s.out in
    let same = c.in_ok-put_stmt.ensures ∙ ap (λ x. behind now (stmt_tokens (written_stmt x.place x.kind))) c.s-item.is in
    more_stmts now (string_bytes c.put_stmt.new.out) c.args.all.now c.loop-s.s-index c.s-item.result c.loop-s-test.true same ∙ c.loop-s.invariant

pub put_block-returns : goal.put_block-returns
put_block-returns t c =
    let opened = behind (string_bytes c.args.out.now) (symbol signs.OpenBrace ∷ []) in
    c.in_ok-put_sign-2.ensures
    ∙ ap (λ l. behind l (symbol signs.CloseBrace ∷ [])) (c.in_ok-put_stmts.ensures ∙ ap₂ (λ l b. behind l (block_tokens b)) c.in_ok-put_sign.ensures (ap statements c.deref.ensures.value ∙ sym (block_is c.args.b.now)))
    ∙ sym (behind_append opened (block_tokens (written_block c.args.b.now)) (symbol signs.CloseBrace ∷ []))

pub put_else-returns-in_ok-put_alone-in-len1 : goal.put_else-returns-in_ok-put_alone-in-len1
put_else-returns-in_ok-put_alone-in-len1 t c =
    let one = else_one c.as_slice.result.now c.only-item.result c.in-len1.len_at_least c.in-len1.len_below in
    c.in_ok-put_alone-in-len1.ensures
    ∙ ap (λ x. behind (string_bytes c.args.out.now) (else_tokens (Then (written_stmt x.place x.kind) Done))) c.only-item.is
    ∙ ap (λ b. behind (string_bytes c.args.out.now) (else_tokens b)) (sym one ∙ ap statements c.as_slice.ensures.value ∙ sym (block_is c.args.other.now))

pub put_else-returns-in_ok-put_block-in_default : goal.put_else-returns-in_ok-put_block-in_default
put_else-returns-in_ok-put_block-in_default t c =
    let many = else_many c.as_slice.result.now (search rules) in
    let same = ap statements c.as_slice.ensures.value ∙ sym (block_is c.args.other.now) in
    c.in_ok-put_block-in_default.ensures
    ∙ ap (λ l. behind l (braced (block_tokens (written_block c.args.other.now)))) c.in_ok-put_word-in_default.ensures
    ∙ ap (λ b. behind (string_bytes c.args.out.now) (else_block b)) (sym same)
    ∙ ap (behind (string_bytes c.args.out.now)) (sym many)
    ∙ ap (λ b. behind (string_bytes c.args.out.now) (else_tokens b)) same

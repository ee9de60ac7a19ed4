use Rattle.std.proofs.Common.{◌∙◌, ap, sym, string_bytes, map, [], ◌∷◌}
use Rattle.vx_ast.specs.Written.{name_of}
use Rattle.vx_tokens.specs.declared.token.Symbol.TheVariants as signs
use Rattle.vx_tokens.specs.Tokens.{symbol}
use Rattle.vx_print.specs.Canonical.{names_tokens}
use Rattle.vx_print.specs.Words.{behind}
use Rattle.vx_print.proofs.Behind.{behind_append, some_targets}
use Rattle.vx_print.proofs.stmt.put_targets.Goals as goal

pub returns : goal.returns
returns c =
    let now = string_bytes c.args.out.now in
    c.in_ok-put_sign.ensures ∙ ap (λ l. behind l (symbol signs.Becomes ∷ [])) c.in_ok-put_names.ensures
    ∙ sym (behind_append now (names_tokens (map name_of c.args.names.now)) (symbol signs.Becomes ∷ []))
    ∙ ap (behind now) (sym (some_targets c.args.names.now c.is_empty.result c.is_empty.ensures c.if-is_empty.false))

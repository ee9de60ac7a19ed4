use Rattle.std.proofs.Common.{◌≡◌, ◌∙◌, ◌++◌, ap, string_bytes}
use Rattle.vx_ast.specs.Written.{name_of, written_kind}
use Rattle.vx_print.specs.Canonical.{member_word, member_rest}
use Rattle.vx_print.specs.Words.{behind, word_text}
use Rattle.vx_print.proofs.Behind.{behind_front}
use Rattle.vx_print.proofs.member.put_tokens.Goals as goal

pub returns : goal.returns
returns c =
    let kind = written_kind c.args.m.now.kind in
    let rest = member_rest (name_of c.args.m.now.name).name kind in
    let first : string_bytes c.push_str.new.self ≡ string_bytes c.args.out.now ++ word_text (member_word kind) = c.in_ok-push_str.ensures.bytes ∙ ap (λ l. string_bytes c.args.out.now ++ l) (c.word_text.ensures ∙ ap word_text c.first_word.ensures) in
    c.in_ok-put_rest.ensures ∙ ap (λ l. behind l rest) first ∙ behind_front (string_bytes c.args.out.now) (word_text (member_word kind)) rest

use Rattle.std.proofs.Common.{◌≡◌, ◌∙◌, ◌++◌, ◌∷◌, [], ap, sym, string_bytes, true, false}
use Rattle.std.specs.Prelude.{not, is_some}
use Rattle.vx_ast.specs.Mentions.{is_among}
use Rattle.vx_expressions.specs.Scopes.{named}
use Rattle.vx_expressions.specs.Views.{table, names_in, signature}
use Rattle.vx_expressions.proofs.Scopes.{appended, unless_fails, unless_passes}
use Rattle.vx_typing.proofs.Tables.{stands, seen_some, nothing}
use Rattle.vx_typing.proofs.members.add_member.Goals as goal

pub returns-then-is_some-clause-first : goal.returns-then-is_some-clause-first
returns-then-is_some-clause-first c =
    let es = table c.args.members.now.entries in
    let x = string_bytes c.args.m.now.name.text in
    let known : is_among x (names_in es) ≡ true =
    sym (stands x es) ∙ ap (λ q. is_some (named es q)) (sym c.deref-name.ensures) ∙ ap is_some (sym c.member.ensures) ∙ seen_some signature c.member.result
    ∙ sym c.is_some.ensures ∙ c.if-is_some.true in
    unless_fails c.twice.result _ _ (ap not known) c.twice.ensures

pub returns-clause-first : goal.returns-clause-first
returns-clause-first c =
    let es = table c.args.members.now.entries in
    let x = string_bytes c.args.m.now.name.text in
    let new : is_among x (names_in es) ≡ false =
    sym (stands x es) ∙ ap (λ q. is_some (named es q)) (sym c.deref-name.ensures) ∙ ap is_some (sym c.member.ensures) ∙ seen_some signature c.member.result
    ∙ sym c.is_some.ensures ∙ c.if-is_some.false in
    unless_passes _ _ (ap not new)

pub returns-clause-added : goal.returns-clause-added
returns-clause-added c =
    let before = table c.args.members.now.entries in
    let none : is_some (named before c.deref-name.result.now) ≡ false = ap is_some (sym c.member.ensures) ∙ seen_some signature c.member.result ∙ sym c.is_some.ensures ∙ c.if-is_some.false in
    ap table c.in_ok-insert.ensures.entries
    ∙ appended signature c.deref-name.result c.signature.result c.args.members.now.entries (nothing (named before c.deref-name.result.now) none)
    ∙ ap (λ q. before ++ (q, signature c.signature.result) ∷ []) c.deref-name.ensures
    ∙ ap (λ s. before ++ (string_bytes c.args.m.now.name.text, s) ∷ []) c.signature.ensures

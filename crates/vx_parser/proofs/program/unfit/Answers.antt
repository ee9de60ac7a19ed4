use Rattle.std.proofs.Common.{refl, sym, subst}
use Rattle.vx_tokens.specs.Tokens.{kind_of}
use Rattle.vx_tokens.specs.Standing.{TokenAt}
use Rattle.vx_parser.proofs.Told.{is_text}
use Rattle.vx_parser.proofs.program.unfit.Goals as goal

pub returns-in-Ok : goal.returns-in-Ok
returns-in-Ok c = λ bytes stands.
    let t = c.args.token.now in
    rw c.if-foreign.true (refl, subst (TokenAt bytes t.place (kind_of t.kind)) (sym (c.in-Ok.ensures.ok (is_text bytes t stands))) stands)

pub returns-in-Ok-2 : goal.returns-in-Ok-2
returns-in-Ok-2 c = λ bytes stands.
    let t = c.args.token.now in
    (kind_of t.kind, rw c.if-foreign.false refl, subst (TokenAt bytes t.place (kind_of t.kind)) (sym (c.in-Ok.ensures.ok (is_text bytes t stands))) stands)

use Rattle.std.proofs.Common.{◌∙◌, ap, map}
use Rattle.vx_ast.specs.Resolve as resolve
use Rattle.vx_ast.specs.Written.{written_member, written_program}
use Rattle.vx_settling.proofs.members.program.Goals as goal

pub returns : goal.returns
returns c =
    c.in_ok-members.ensures
    ∙ ap (λ names. map (resolve.member names) (map written_member c.deref-2.result.now))
    (c.in_ok-names.ensures ∙ ap (λ ms. resolve.names_of (map written_member ms)) c.deref.ensures.value)
    ∙ ap (λ ms. map (resolve.member (resolve.names_of (written_program c.args.p.now))) (map written_member ms)) c.deref-2.ensures.value

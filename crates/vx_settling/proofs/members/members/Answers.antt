use Rattle.std.proofs.Common.{◌∙◌, ap, map}
use Rattle.std.proofs.lemmas.List.{take_all}
use Rattle.vx_ast.specs.Resolve as resolve
use Rattle.vx_resolved.specs.Resolved as view
use Rattle.vx_ast.specs.Written.{written_member}
use Rattle.vx_settling.specs.Names.{names_in}
use Rattle.vx_settling.proofs.Loops.{one_more}
use Rattle.vx_settling.proofs.members.members.Goals as goal

pub loop-m-preserved : goal.loop-m-preserved
loop-m-preserved c =
    ap (map view.member) c.in_ok-push.ensures.items
    ∙ one_more view.member (resolve.member (names_in c.args.names.now)) written_member c.loop-m.settled.items c.in_ok-member.field-0 c.args.all.now c.loop-m.m-index c.m-item.result c.loop-m-test.true c.m-item.is
    c.in_ok-member.ensures c.loop-m.invariant

pub returns : goal.returns
returns c =
    c.loop-m.invariant
    ∙ ap (λ ms. map (resolve.member (names_in c.args.names.now)) (map written_member ms)) (take_all c.loop-m.m-index c.args.all.now c.loop-m-test.false)

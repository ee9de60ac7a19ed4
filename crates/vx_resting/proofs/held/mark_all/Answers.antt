use Rattle.std.proofs.Common.{get_or}
use Rattle.std.proofs.lemmas.List.{get_or_default}
use Rattle.vx_ast.specs.declared.MemberId.{MemberId}
use Rattle.vx_resting.proofs.Firsts.{held_more}
use Rattle.vx_resting.proofs.held.mark_all.Goals as goal

pub loop-member-preserved : goal.loop-member-preserved
loop-member-preserved c =
    let ms = c.args.members.now in
    let i = c.loop-member.member-index in
    let m : MemberId = get_or ms i record { 0 = 0 } in
    held_more c.args.held.now c.loop-member.held c.mark.new.held ms i m c.args.by c.loop-member-test.true (get_or_default ms i _ _ c.loop-member-test.true) c.loop-member.invariant c.mark.ensures

use Rattle.std.proofs.Common.{◌≡◌, [], arith, length, subst, sym}
use Rattle.vx_closure.specs.Mentioners.{AreMentioners}
use Rattle.vx_closure.proofs.Turns.{one_more, all_told, in_range}
use Rattle.vx_resolved.specs.Resolved.{member}
use Rattle.vx_resolved.specs.Settled.{settled}
use Rattle.vx_closure.proofs.rows.mentioners.Goals as goal

pub loop-number-preserved : goal.loop-number-preserved
loop-number-preserved c =
    one_more (settled c.args.program.now) c.loop-number.rows.items c.add_kind.new.rows.items c.loop-number.number (member c.member.result.now) c.member.ensures
    c.in_ok-add_kind.ensures.members (c.in_ok-add_kind.ensures.added []) c.loop-number.invariant

pub of-requires-clause-within : goal.of-requires-clause-within
of-requires-clause-within c =
    let all : c.loop-number.number ≡ length (settled c.args.program.now) = omega (arith, c.len-number-end.ensures) in
    in_range (settled c.args.program.now) c.loop-number.rows.items (all_told (settled c.args.program.now) c.loop-number.number c.loop-number.rows.items all c.loop-number.invariant)

pub returns : goal.returns
returns c =
    let all : c.loop-number.number ≡ length (settled c.args.program.now) = omega (arith, c.len-number-end.ensures) in
    subst (AreMentioners (settled c.args.program.now)) (sym c.in_ok-edges.ensures) (all_told (settled c.args.program.now) c.loop-number.number c.loop-number.rows.items all c.loop-number.invariant)

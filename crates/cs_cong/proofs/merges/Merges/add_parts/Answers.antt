use Rattle.std.proofs.Common.{◌≡◌, length, min, arith}
use Rattle.cs_cong.specs.Merged.{representative}
use Rattle.cs_cong.proofs.Explaining.{same_length, same_at, first_more, first_all}
use Rattle.cs_cong.proofs.merges.Merges.add_parts.Goals as goal

pub add_part-requires-clause-joined : goal.add_part-requires-clause-joined
add_part-requires-clause-joined c =
    let end : c.min-at-end.result ≡ min (length c.args.xs.now) (length c.args.ys.now) = c.min-at-end.ensures in
    same_at (representative c.args.self.now.log.items c.args.time) c.args.xs.now c.args.ys.now c.requires.same c.loop-at.at (omega (arith, end, c.loop-at-test.true))

pub loop-at-preserved : goal.loop-at-preserved
loop-at-preserved c =
    let end : c.min-at-end.result ≡ min (length c.args.xs.now) (length c.args.ys.now) = c.min-at-end.ensures in
    first_more c.loop-at.at c.args.self.now.log.items c.args.time c.args.xs.now c.args.ys.now c.args.steps.now.items c.loop-at.steps.items c.add_part.new.steps.items (omega (arith, end, c.loop-at-test.true)) c.loop-at.invariant c.in_ok-add_part.ensures

pub returns : goal.returns
returns c =
    let end : c.min-at-end.result ≡ min (length c.args.xs.now) (length c.args.ys.now) = c.min-at-end.ensures in
    let long = same_length (representative c.args.self.now.log.items c.args.time) c.args.xs.now c.args.ys.now c.requires.same in
    first_all c.loop-at.at c.args.self.now.log.items c.args.time c.args.xs.now c.args.ys.now c.args.steps.now.items c.loop-at.steps.items (omega (arith, end, c.loop-at-test.false, long)) c.loop-at.invariant

use Rattle.cs_cong.proofs.Longer.{longer_same}
use Rattle.std.proofs.Common.{subst, refl}
use Rattle.cs_cong.specs.declared.merges.Reason.TheVariants.{Claimed}
use Rattle.cs_cong.specs.Merged.{IsMerged}
use Rattle.cs_cong.proofs.Stages.{stage_merged, longer_on}
use Rattle.cs_cong.proofs.classes.follow.Goals as goal

pub returns-clause-stage : goal.returns-clause-stage
returns-clause-stage c claims e equal s =
    let old = c.args.merges.now.log.items in
    let mid = c.join.new.merges.log.items in
    stage_merged c.args.terms.now claims c.args.claim old mid c.close.new.merges.log.items equal s
    (subst (λ n. IsMerged old c.args.claim.left c.args.claim.right (Claimed n) mid) e c.in_ok-join.ensures.merged)
    c.in_ok-close.ensures.grown c.in_ok-close.ensures.closed

pub returns-in_err-waiting-clause-longer : goal.returns-in_err-waiting-clause-longer
returns-in_err-waiting-clause-longer c = longer_same c.args.merges.now.log.items c.args.merges.now.log.items refl

pub returns-in_err-close-clause-longer : goal.returns-in_err-close-clause-longer
returns-in_err-close-clause-longer c = longer_on c.args.merges.now.log.items c.join.new.merges.log.items c.close.new.merges.log.items c.in_ok-join.ensures.longer c.in_err-close.ensures.longer

pub returns-clause-longer : goal.returns-clause-longer
returns-clause-longer c = longer_on c.args.merges.now.log.items c.join.new.merges.log.items c.close.new.merges.log.items c.in_ok-join.ensures.longer c.in_ok-close.ensures.longer

use Rattle.cs_cong.specs.declared.merges.Reason.TheVariants.{Congruence}
use Rattle.cs_cong.proofs.Longer.{longer_same, longer_apart}
use Rattle.std.proofs.Common.{◌∙◌, refl, arith, ◌<◌, length}
use Rattle.cs_cong.proofs.Grown.{grown_merged, grown_none}
use Rattle.cs_cong.proofs.Stages.{longer_on}
use Rattle.cs_cong.proofs.waiting.Waiting.close.Goals as goal

pub close-preserved : goal.close-preserved
close-preserved c =
    let old = c.args.merges.now.log.items in
    let mid = c.close.merges.log.items in
    let new = c.join.new.merges.log.items in
    record {
      width = c.in_ok-join.ensures.same_terms ∙ c.close.invariant.width;
      longer = longer_on old mid new c.close.invariant.longer c.in_ok-join.ensures.longer;
      grown = grown_merged c.args.terms.now old mid new c.in-Some.pair.left c.in-Some.pair.right c.close.invariant.grown (rw c.in-Some.is at c.in_ok-found.ensures.pair) c.in_ok-join.ensures.merged;
      settled = c.in_ok-join.ensures.settled c.args.terms.now c.in_ok-found.ensures.settled;
    }

pub close-init : goal.close-init
close-init c =
    let log = c.args.merges.now.log.items in
    record { width = refl; longer = longer_same log log refl; grown = grown_none c.args.terms.now log; settled = c.requires.settled }

pub close-smaller : goal.close-smaller
close-smaller c =
    let more : length c.close.merges.log.items < length c.join.new.merges.log.items =
    longer_apart c.close.merges.log.items c.join.new.merges.log.items c.in-Some.pair.left c.in-Some.pair.right Congruence c.in_ok-join.ensures.merged (rw c.in-Some.is at c.in_ok-found.ensures.apart) in
    omega (arith, more, c.join.new.merges.fewer)

pub returns-in_err-join-clause-longer : goal.returns-in_err-join-clause-longer
returns-in_err-join-clause-longer c = longer_on c.args.merges.now.log.items c.close.merges.log.items c.join.new.merges.log.items c.close.invariant.longer c.in_err-join.ensures.longer

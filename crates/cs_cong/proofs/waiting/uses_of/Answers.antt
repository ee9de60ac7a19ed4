use Rattle.cs_cong.proofs.Used.{used_term, used_terms}
use Rattle.cs_cong.specs.Merged.{current}
use Rattle.std.proofs.Common.{◌∙◌}
use Rattle.cs_cong.proofs.waiting.uses_of.Goals as goal

pub loop-at-preserved : goal.loop-at-preserved
loop-at-preserved c =
    record {
      count = c.in_ok-add_uses.ensures.count ∙ c.loop-at.invariant.count;
      used = used_term c.args.terms.now (current c.args.merges.now.log.items) c.loop-at.uses.items c.add_uses.new.uses.items c.loop-at.at c.index-terms-at.result c.deref.result.now c.loop-at-test.true c.deref.ensures.value c.loop-at.invariant.used c.in_ok-add_uses.ensures.used;
    }

pub returns-clause-used : goal.returns-clause-used
returns-clause-used c = used_terms c.args.terms.now (current c.args.merges.now.log.items) c.loop-at.uses.items c.loop-at.at c.loop-at-test.false c.loop-at.invariant.used

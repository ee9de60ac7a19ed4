use Rattle.std.proofs.Common.{◌∙◌}
use Rattle.cs_cong.proofs.Used.{used_part, used_parts}
use Rattle.cs_cong.specs.Merged.{current}
use Rattle.cs_cong.proofs.waiting.add_uses.Goals as goal

pub loop-part-preserved : goal.loop-part-preserved
loop-part-preserved c =
    record {
      count = c.in_ok-put.ensures.count ∙ c.loop-part.invariant.count;
      used = used_part (current c.args.merges.now.log.items) c.args.uses.now.items c.loop-part.uses.items c.put.new.rows.items c.args.parts.now c.loop-part.part-index c.args.number c.now.result c.loop-part-test.true c.now.ensures.value c.in_ok-put.ensures c.loop-part.invariant.used;
    }

pub returns-clause-used : goal.returns-clause-used
returns-clause-used c = used_parts (current c.args.merges.now.log.items) c.args.uses.now.items c.loop-part.uses.items c.args.parts.now c.loop-part.part-index c.args.number c.loop-part-test.false c.loop-part.invariant.used

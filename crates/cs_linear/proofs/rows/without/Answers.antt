use Rattle.cs_linear.proofs.Sums.{rest_more, rest_end}
use Rattle.cs_linear.proofs.rows.without.Goals as goal

pub loop-entry-preserved : goal.loop-entry-preserved
loop-entry-preserved c = rest_more c.loop-entry.rest.items c.args.entries.now c.loop-entry.entry-index c.args.column c.keep.new.rest.items c.entry-item.result c.loop-entry-test.true c.entry-item.is c.in_ok-keep.ensures.value c.loop-entry.invariant

pub returns-clause-value : goal.returns-clause-value
returns-clause-value c = rest_end c.loop-entry.rest.items c.args.entries.now c.loop-entry.entry-index c.args.column c.loop-entry-test.false c.loop-entry.invariant

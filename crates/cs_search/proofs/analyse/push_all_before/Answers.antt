use Rattle.std.proofs.Common.{false}
use Rattle.cs_search.proofs.Added.{before_more, before_all}
use Rattle.cs_search.proofs.analyse.push_all_before.Goals as goal

pub loop-literal-preserved : goal.loop-literal-preserved
loop-literal-preserved c = before_more c.args.values.now c.args.k c.args.met.now c.loop-literal.literal-index record { positive = false; number = 0 } c.args.list.now.items c.loop-literal.list.items c.push_before.new.list.items c.loop-literal-test.true c.loop-literal.invariant c.in_ok-push_before.ensures

pub returns : goal.returns
returns c = before_all c.args.values.now c.args.k c.args.met.now c.loop-literal.literal-index c.args.list.now.items c.loop-literal.list.items c.loop-literal-test.false c.loop-literal.invariant

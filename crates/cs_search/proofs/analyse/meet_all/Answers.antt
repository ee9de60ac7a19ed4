use Rattle.std.proofs.Common.{false, ◌∙◌}
use Rattle.cs_search.proofs.Mets.{joined_more}
use Rattle.cs_search.proofs.analyse.meet_all.Goals as goal

pub loop-literal-preserved : goal.loop-literal-preserved
loop-literal-preserved c = record {
  met = c.in_ok-meet.ensures.met;
  joined = joined_more _ _ _ _ c.args.list.now c.loop-literal.literal-index record { positive = false; number = 0 } c.loop-literal-test.true c.loop-literal.invariant.joined c.in_ok-meet.ensures.joined;
  hints = c.in_ok-meet.ensures.hints ∙ c.loop-literal.invariant.hints;
}

use Rattle.std.proofs.Common.{◌∙◌, arith}
use Rattle.vx_ends.proofs.Dialogues.{puts_on}
use Rattle.std.proofs.lemmas.Grind.{common_steps}
use Rattle.vx_ends.proofs.whole.put_all.Goals as goal

pub loop-done-preserved : goal.loop-done-preserved
loop-done-preserved g c = record {
  within = grind (arith, common_steps);
  taken = puts_on _ _ _ _ _ _ c.loop-done.invariant.taken c.in_ok-done.ensures.taken;
  calm = c.in_ok-done.ensures.calm ∙ c.loop-done.invariant.calm;
}

use Rattle.std.proofs.Common.{◌∙◌, arith}
use Rattle.std.proofs.lemmas.Result.{err_from_is_err_and}
use Rattle.vx_ends.proofs.Dialogues.{puts_on}
use Rattle.vx_ends.proofs.Talks.{talks_on, says_whole, says_short}
use Rattle.std.proofs.lemmas.Grind.{common_steps}
use Rattle.vx_ends.proofs.whole.say_all.Goals as goal

pub loop-done-preserved : goal.loop-done-preserved
loop-done-preserved g c =
    let so_far = c.loop-done.invariant in
    let next = c.in_ok-done.ensures in
    record {
      within = grind (arith, common_steps);
      taken = puts_on _ _ _ _ _ _ so_far.taken next.taken;
      dialogue = talks_on _ _ _ _ _ _ so_far.dialogue next.dialogue;
      calm = next.calm ∙ so_far.calm;
      given = next.given ∙ so_far.given;
      at_end = next.end ∙ so_far.at_end;
      reads = next.reads ∙ so_far.reads;
      names = next.names ∙ so_far.names;
    }

pub returns-clause-says : goal.returns-clause-says
returns-clause-says g c =
    says_whole _ _ _ _ _ _ (grind (arith, common_steps)) c.loop-done.invariant.taken c.loop-done.invariant.dialogue

pub returns-in_err-done-clause-says : goal.returns-in_err-done-clause-says
returns-in_err-done-clause-says g c =
    let so_far = c.loop-done.invariant in
    let p = err_from_is_err_and c.from_residual.result c.from_residual.ensures.1 in rw p.1
    (says_short _ _ _ _ _ _ _ _ so_far.taken c.in_err-done.ensures.taken so_far.dialogue c.in_err-done.ensures.dialogue)

use Rattle.std.proofs.Common.{◌∙◌, ◌++◌, ap, arith}
use Rattle.vx_ends.proofs.Dialogues.{sent_by_sent, got_by_sent, taken_on, begun_by, grows_by_piece, sends_more}
use Rattle.vx_ends.specs.Dialogue.{sent}
use Rattle.std.proofs.lemmas.Grind.{common_steps}
use Rattle.vx_ends.proofs.whole.send_all.Goals as goal

pub loop-done-preserved : goal.loop-done-preserved
loop-done-preserved g c =
    let sends = c.in_ok-done.ensures.record in
    let so_far = c.loop-done.invariant in
    record {
      within = grind (arith, common_steps);
      sent = taken_on _ _ _ _ _ _ so_far.sent (sent_by_sent _ _ _ sends.2);
      got = got_by_sent _ _ _ sends.2 ∙ so_far.got;
      grows = λ front begins. grows_by_piece _ _ _ sends.2 front (so_far.grows front begins);
      pieces = sends_more _ _ _ _ so_far.pieces sends.2;
      later = grind (arith, common_steps);
      fixed = c.in_ok-done.ensures.fixed ∙ so_far.fixed;
      calm = λ steady none.
          let still = so_far.calm steady none in
          (c.in_ok-done.ensures.steady (rw so_far.fixed steady) still).same ∙ still;
    }

pub returns-in_err-done-clause-begun : goal.returns-in_err-done-clause-begun
returns-in_err-done-clause-begun g c =
    let here = begun_by c.args.text.now _ _ c.loop-done.done c.loop-done.invariant.sent in
    (here.0, ap (λ x. sent x ++ here.0) c.in_err-done.ensures.record ∙ here.1)

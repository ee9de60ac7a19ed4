use Rattle.std.proofs.Common.{rules, ◌≡◌, ◌<◌, ◌++◌, drop, length, subst, append_assoc}
use Rattle.cs_session.specs.Texts.{reply_text}
use Rattle.cs_session.specs.Answering.{told_cause, Answering, answered}
use Rattle.cs_session.specs.Views.{state}
use Rattle.vx_companion.specs.Companion.{KeepsUp}
use Rattle.vx_companion.proofs.Replies.{answered_one, shorter}
use Rattle.vx_companion.proofs.Answered.{replied_line}
use Rattle.vx_companion.proofs.Lines.{reply_one}
use Rattle.vx_dialogue.proofs.Counts.{finished_fault}
use Rattle.vx_companion.proofs.builtin.reply_all.Goals as goal

pub commands-preserved : goal.commands-preserved
commands-preserved c =
    let so_far = c.commands.invariant in
    let replies = c.commands.replies.items in
    let rest = c.commands.rest.now in
    let one = c.in_ok-reply.ensures in
    let ends = c.in-Ok.ensures.first in
    let left = drop c.in-Ok.taken rest in
    let line = reply_text one.0 in
    let causes = c.commands.causes.items in
    let after = state c.reply.new.session in
    let told = told_cause one.0 after in
    let back : c.split_at.result.1.now ≡ left = search rules in
    record {
      answering = λ all front before h.
          rw (one.2, one.3, back) (subst (λ x. Answering all (front ++ (replies ++ line)) left x after) (append_assoc before causes told)
          (subst (λ x. Answering all x left ((before ++ causes) ++ told) after) (append_assoc front replies line)
          (answered c.in-Ok.taken one.0 (so_far.answering all front before h) ends one.1)));
      keeps_up = λ all front h.
          rw (one.2, back) (subst (λ x. KeepsUp all left x) (append_assoc front replies line)
          (answered_one all rest left (front ++ replies) line ends.1 ends.2 (reply_one one.0 (replied_line one.1.understood (state c.commands.session) (state c.reply.new.session) one.0 one.1.replied)) (so_far.keeps_up all front h)));
    }

pub returns-in-Err-clause-none_left : goal.returns-in-Err-clause-none_left
returns-in-Err-clause-none_left c = finished_fault _ c.commands.rest.now c.in-Err.ensures.fault

pub commands-smaller : goal.commands-smaller
commands-smaller c =
    let back : c.split_at.result.1.now ≡ drop c.in-Ok.taken c.commands.rest.now = search rules in
    let less : length c.split_at.result.1.now < length c.commands.rest.now = rw back (shorter c.commands.rest.now c.in-Ok.taken c.in-Ok.ensures.first.1 c.in-Ok.ensures.first.0 c.in-Ok.ensures.first.2) in
    less

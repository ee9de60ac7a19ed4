use Rattle.std.proofs.Common.{◌∙◌, ap, subst, sym}
use Rattle.vx_pool.specs.declared.next.Next.TheVariants as next
use Rattle.vx_stack.specs.Stack.{query}
use Rattle.vx_pool.specs.Events.{GoesOn, with_answer, question_in, IfQuestion}
use Rattle.vx_pool.proofs.Steps.{told_at}
use Rattle.vx_pool.proofs.lane.drive.Goals as goal

pub post-requires-clause-told : goal.post-requires-clause-told
post-requires-clause-told g c =
    let w = g.W.Worker in (
      w.log c.next.new.self,
      told_at (g.T.Talker.Tells c.questions.talker c.questions.hub) (w.log c.next.new.self) (with_answer (w.log c.questions.worker) c.questions.reply (w.asked c.questions.worker))
          c.in_ok-next.next (next.Question c.in-Question.query c.in-Question.stays) c.in-Question.is c.in_ok-next.ensures.told c.questions.invariant.told,
      c.requires.postable (w.log c.next.new.self) (query c.in-Question.query)
          (subst (λ n. IfQuestion n (λ q stays. w.IsPostable (w.log c.next.new.self) q)) c.in-Question.is c.in_ok-next.ensures.postable),
      subst (λ n. IfQuestion n (GoesOn (w.log c.next.new.self))) c.in-Question.is c.in_ok-next.ensures.goes_on,
    )

pub returns-in-Ok-clause-stands : goal.returns-in-Ok-clause-stands
returns-in-Ok-clause-stands g c =
    let w = g.W.Worker in
    record {
      fits = c.in_ok-next.ensures.fits;
      same = c.next.ensures.lane ∙ (c.questions.invariant.same ∙ sym c.post.ensures.moves.stays);
      held = c.post.ensures.held;
      question = query c.in-Question.query;
      asks = c.in_ok-next.ensures.open ∙ ap question_in c.in-Question.is;
      told = c.in-Ok.ensures.told (w.log c.next.new.self)
          (told_at (g.T.Talker.Tells c.questions.talker c.questions.hub) (w.log c.next.new.self) (with_answer (w.log c.questions.worker) c.questions.reply (w.asked c.questions.worker))
          c.in_ok-next.next (next.Question c.in-Question.query c.in-Question.stays) c.in-Question.is c.in_ok-next.ensures.told c.questions.invariant.told);
    }

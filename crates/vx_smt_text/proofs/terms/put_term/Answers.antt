use Rattle.std.proofs.Common.{◌<◌, ◌++◌, sym, ap, ◌∙◌, subst, append_assoc}
use Rattle.vx_smt_text.specs.Pending.{pending_text, texts, load, ArePendingSmall}
use Rattle.vx_smt_text.proofs.Pendings.{texts_more, load_more, small_join}
use Rattle.vx_smt_text.proofs.terms.put_term.Goals as goal

pub loop-next-smaller : goal.loop-next-smaller
loop-next-smaller c =
    let all = ap load c.in-Some.ensures.items ∙ load_more c.pop.new.self.items c.in-Some.next in
    subst (λ n. load c.put_next.new.pending.items < n) (sym all) c.in_ok-put_next.ensures.load

pub loop-next-preserved : goal.loop-next-preserved
loop-next-preserved c =
    let all = ap texts c.in-Some.ensures.items ∙ texts_more c.pop.new.self.items c.in-Some.next in (
      c.in_ok-put_next.ensures.text ∙ append_assoc c.loop-next.text.items (pending_text c.in-Some.next) (texts c.pop.new.self.items)
          ∙ ap (λ x. c.loop-next.text.items ++ x) (sym all) ∙ c.loop-next.invariant.0,
      λ small.
          let more = c.in_ok-put_next.ensures.small small in
          c.loop-next.invariant.1 (subst ArePendingSmall (sym c.in-Some.ensures.items) (small_join c.pop.new.self.items c.in-Some.next more.0 more.1)),
    )

use Rattle.std.proofs.Common.{◌<◌, ◌&&◌, sym, ap, ◌∙◌, subst}
use Rattle.cs_writable.specs.Pending.{all_writable, load}
use Rattle.cs_writable.proofs.Pendings.{writable_more, load_more}
use Rattle.cs_writable.proofs.term_walk.is_writable_term.Goals as goal

pub loop-next-smaller : goal.loop-next-smaller
loop-next-smaller c =
    let all = ap load c.in-Some.ensures.items ∙ load_more c.pop.new.self.items c.in-Some.next in
    subst (λ n. load c.look_at_next.new.pending.items < n) (sym all) c.in_ok-fine.ensures.load

pub loop-next-preserved : goal.loop-next-preserved
loop-next-preserved c =
    let all = ap all_writable c.in-Some.ensures.items ∙ writable_more c.pop.new.self.items c.in-Some.next in
    ap (λ b. b && all_writable c.look_at_next.new.pending.items) (sym c.if-not-fine.false) ∙ c.in_ok-fine.ensures.told ∙ sym all ∙ c.loop-next.invariant

pub returns-then-not-fine : goal.returns-then-not-fine
returns-then-not-fine c =
    let all = ap all_writable c.in-Some.ensures.items ∙ writable_more c.pop.new.self.items c.in-Some.next in
    ap (λ b. b && all_writable c.look_at_next.new.pending.items) (sym c.if-not-fine.true) ∙ c.in_ok-fine.ensures.told ∙ sym all ∙ c.loop-next.invariant

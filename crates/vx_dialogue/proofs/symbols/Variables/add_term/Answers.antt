use Rattle.std.proofs.Common.{◌<◌, sym, ap, ◌∙◌, subst}
use Rattle.vx_dialogue.specs.Pending.{with_pending, load}
use Rattle.vx_dialogue.proofs.Pendings.{pending_more, load_more}
use Rattle.vx_dialogue.proofs.symbols.Variables.add_term.Goals as goal

pub loop-next-smaller : goal.loop-next-smaller
loop-next-smaller c =
    let all = ap load c.in-Some.ensures.items ∙ load_more c.pop.new.self.items c.in-Some.next in
    subst (λ n. load c.add_next.new.pending.items < n) (sym all) c.in_ok-add_next.ensures.load

pub loop-next-preserved : goal.loop-next-preserved
loop-next-preserved c =
    let all = ap (with_pending c.loop-next.self) c.in-Some.ensures.items ∙ pending_more c.loop-next.self c.pop.new.self.items c.in-Some.next in
    c.in_ok-add_next.ensures.adds ∙ sym all ∙ c.loop-next.invariant

use Rattle.std.proofs.lemmas.Grind.{common_steps}
use Rattle.std.proofs.Common.{◌<◌, ◌∙◌, ap, sym, subst, arith}
use Rattle.std.specs.Prelude.{All}
use Rattle.std.proofs.lemmas.List.Elements.{All-push}
use Rattle.vx_graph.specs.declared.order.Step.{Step}
use Rattle.vx_graph.specs.declared.order.Step.TheVariants.{Enter}
use Rattle.vx_graph.specs.Order.{member_of, enters}
use Rattle.vx_graph.proofs.Orders.{enters_more}
use Rattle.vx_graph.proofs.order.Walk.new.Goals as goal

pub loop-n-preserved : goal.loop-n-preserved
loop-n-preserved c =
    let items = c.in_ok-push.ensures.items in
    record {
      steps = subst (All (λ s. (member_of s).0 < c.args.members)) (sym items) (All-push (λ (s : Step). (member_of s).0 < c.args.members) c.loop-n.stack.items (Enter record { 0 = c.loop-n.n }) c.loop-n.invariant.steps c.loop-n-test.true);
      all = λ k lt. ap (λ xs. enters xs k) items ∙ enters_more c.loop-n.n c.loop-n.stack.items record { 0 = c.loop-n.n } (λ i. c.loop-n.n) c.loop-n.invariant.all k lt;
    }

pub returns : goal.returns
returns c = grind (arith, common_steps)

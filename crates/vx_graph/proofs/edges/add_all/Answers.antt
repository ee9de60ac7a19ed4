use Rattle.std.proofs.lemmas.Grind.{common_steps}
use Rattle.std.proofs.Common.{◌≡◌, ◌∙◌, sym, subst, arith, add-one, take, ◌||◌, ◌&&◌, nat_eq}
use Rattle.std.proofs.lemmas.List.{get_or_default}
use Rattle.vx_graph.specs.Listed.{is_in}
use Rattle.vx_graph.specs.Reach.{leads}
use Rattle.vx_graph.proofs.Rows.{edges_more}
use Rattle.vx_graph.proofs.edges.add_all.Goals as goal

pub loop-m-preserved : goal.loop-m-preserved
loop-m-preserved c = record {
  members = c.in_ok-add.ensures.members ∙ c.loop-m.invariant.members;
  edges = λ a b. subst (λ k. leads c.add.new.rows.items a b ≡ (leads c.args.rows.now.items a b || (is_in (take k c.args.from.now) a && nat_eq c.args.to.0 b))) (sym (add-one c.loop-m.m-index)) (edges_more c.args.rows.now.items c.loop-m.rows.items c.add.new.rows.items c.args.from.now c.loop-m.m-index _ c.args.to (omega (arith, c.loop-m-test.true)) (get_or_default c.args.from.now c.loop-m.m-index _ _ c.loop-m-test.true) c.loop-m.invariant.edges c.in_ok-add.ensures.edges a b);
  within = λ n to before. c.in_ok-add.ensures.within n to (c.loop-m.invariant.within n to before);
}

pub returns-clause-edges : goal.returns-clause-edges
returns-clause-edges c = grind (arith, common_steps)

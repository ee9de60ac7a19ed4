use Rattle.std.proofs.Common.{◌≡◌, ◌∙◌, sym, ap, subst, add-one, take, ◌||◌, ◌&&◌, nat_eq}
use Rattle.vx_graph.specs.Listed.{is_in}
use Rattle.vx_graph.specs.Reach.{leads}
use Rattle.vx_graph.proofs.Rows.{turned_more}
use Rattle.vx_graph.proofs.edges.turned.Goals as goal

pub loop-at-preserved : goal.loop-at-preserved
loop-at-preserved c = record {
  members = c.in_ok-add_all.ensures.members ∙ c.loop-at.invariant.members;
  edges = λ a b. subst (λ k. leads c.add_all.new.rows.items b a ≡ leads (take k c.args.rows.now) a b) (sym (add-one c.loop-at.at)) (turned_more c.args.rows.now c.loop-at.sources.items c.add_all.new.rows.items c.loop-at.at c.index-rows-at.result c.loop-at-test.true c.index-rows-at.is c.loop-at.invariant.edges (λ x y. c.in_ok-add_all.ensures.edges x y ∙ ap (λ ms. leads c.loop-at.sources.items x y || (is_in ms x && nat_eq c.loop-at.at y)) c.deref.ensures.value) a b);
  within = c.in_ok-add_all.ensures.within _ c.loop-at-test.true c.loop-at.invariant.within;
}

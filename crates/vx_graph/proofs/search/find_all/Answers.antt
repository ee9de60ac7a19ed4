use Rattle.std.proofs.Common.{◌≡◌, ◌∙◌, subst, true}
use Rattle.std.specs.Prelude.{All}
use Rattle.std.proofs.lemmas.List.{get_or_default, take_all}
use Rattle.vx_graph.specs.Listed.{is_in, is_marked}
use Rattle.vx_graph.proofs.Searches.{found_more}
use Rattle.vx_graph.proofs.search.find_all.Goals as goal

pub loop-m-preserved : goal.loop-m-preserved
loop-m-preserved c =
    let row = c.args.row.now in
    let more = found_more c.args.marks.now c.args.found.now.order.items c.loop-m.found.order.items c.find.new.found.order.items row c.loop-m.m-index _ c.loop-m-test.true
    (get_or_default row c.loop-m.m-index _ _ c.loop-m-test.true) c.loop-m.invariant.found c.loop-m.invariant.order c.in_ok-find.ensures.found c.in_ok-find.ensures.order in
    record {
      members = c.in_ok-find.ensures.members ∙ c.loop-m.invariant.members;
      found = more.0;
      order = more.1;
    }

pub returns-clause-found : goal.returns-clause-found
returns-clause-found c =
    subst (All (λ m. is_marked c.args.marks.now m.0 ≡ true → is_in c.loop-m.found.order.items m.0 ≡ true)) (take_all c.loop-m.m-index c.args.row.now c.loop-m-test.false) c.loop-m.invariant.found

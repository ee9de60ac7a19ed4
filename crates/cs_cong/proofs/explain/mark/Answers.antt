use Rattle.std.proofs.Common.{◌≡◌, ◌<◌, true, take, All, subst, ◌∙◌}
use Rattle.std.proofs.lemmas.List.{take_all}
use Rattle.std.proofs.lemmas.List.Elements.{All-more, All-weaker}
use Rattle.cs_cong.specs.declared.paths.Edge.{Edge}
use Rattle.cs_cong.specs.Marked.{is_marked}
use Rattle.cs_cong.proofs.Marks.{marked_on}
use Rattle.cs_cong.proofs.explain.mark.Goals as goal

pub loop-edge-preserved : goal.loop-edge-preserved
loop-edge-preserved c =
    let old = c.loop-edge.needs.all in
    let new = c.mark_one.new.needs.all in
    record {
      time = c.mark_one.ensures.time ∙ c.loop-edge.invariant.time;
      more = marked_on c.args.time c.args.needs.now.all old new c.loop-edge.invariant.more c.in_ok-mark_one.ensures.marks;
      done =
          All-more (λ (e : Edge). e.merge < c.args.time → is_marked new e.merge ≡ true) c.args.edges.now c.loop-edge.edge-index _ c.loop-edge-test.true
          (All-weaker (λ (e : Edge). e.merge < c.args.time → is_marked old e.merge ≡ true) (λ (e : Edge). e.merge < c.args.time → is_marked new e.merge ≡ true) (λ e f lt. c.in_ok-mark_one.ensures.marks.kept e.merge (f lt)) (take c.loop-edge.edge-index c.args.edges.now) c.loop-edge.invariant.done)
          c.in_ok-mark_one.ensures.marked;
    }

pub returns-clause-marked : goal.returns-clause-marked
returns-clause-marked c =
    subst (All (λ (e : Edge). e.merge < c.args.time → is_marked c.loop-edge.needs.all e.merge ≡ true)) (take_all c.loop-edge.edge-index c.args.edges.now c.loop-edge-test.false) c.loop-edge.invariant.done

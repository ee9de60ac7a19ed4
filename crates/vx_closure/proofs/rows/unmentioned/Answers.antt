use Rattle.std.proofs.Common.{◌∙◌, ap, length, ◌+◌}
use Rattle.std.proofs.lemmas.List.{length-append}
use Rattle.vx_graph.specs.Reach.{leads}
use Rattle.vx_graph.proofs.Rows.{none_leads}
use Rattle.vx_closure.proofs.rows.unmentioned.Goals as goal

pub loop-preserved : goal.loop-preserved
loop-preserved c =
    let items = c.in_ok-push.ensures.items in
    record {
      members = ap length items ∙ length-append c.loop.rows.items _ ∙ ap (λ n. n + 1) c.loop.invariant.members;
      edges = λ a b. ap (λ rs. leads rs a b) items ∙ none_leads c.loop.rows.items c.new.result c.new.ensures.items c.loop.invariant.edges a b;
    }

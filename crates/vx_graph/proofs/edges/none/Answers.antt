use Rattle.std.proofs.Common.{◌∙◌, sym, ap, length, ◌+◌, ◌<◌, subst, Vec}
use Rattle.std.specs.declared.alloc.Global.{Global}
use Rattle.vx_ast.specs.declared.MemberId.{MemberId}
use Rattle.std.specs.List.{All}
use Rattle.std.proofs.lemmas.List.{length-append}
use Rattle.std.proofs.lemmas.List.Elements.{All-push, All-nil}
use Rattle.vx_graph.specs.Reach.{leads, InRange}
use Rattle.vx_graph.proofs.Rows.{none_leads}
use Rattle.vx_graph.proofs.edges.none.Goals as goal

pub loop-preserved : goal.loop-preserved
loop-preserved c =
    let items = c.in_ok-push.ensures.items in
    record {
      members = ap length items ∙ length-append c.loop.rows.items _ ∙ ap (λ n. n + 1) c.loop.invariant.members;
      edges = λ a b. ap (λ rs. leads rs a b) items ∙ none_leads c.loop.rows.items c.new.result c.new.ensures.items c.loop.invariant.edges a b;
      within = λ n. subst (InRange n) (sym items) (All-push (λ (row : Vec MemberId Global). All (λ m. m.0 < n) row.items) c.loop.rows.items c.new.result (c.loop.invariant.within n) (subst (All (λ m. m.0 < n)) (sym c.new.ensures.items) (All-nil (λ (m : MemberId). m.0 < n))));
    }

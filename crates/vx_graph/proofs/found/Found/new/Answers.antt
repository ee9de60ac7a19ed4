use Rattle.std.proofs.Common.{ap, sym, ◌∙◌, length, get_or, subst, ◌≡◌, ◌<◌, false}
use Rattle.std.specs.Prelude.{All}
use Rattle.std.proofs.lemmas.List.Elements.{All-nil}
use Rattle.vx_ast.specs.declared.MemberId.{MemberId}
use Rattle.vx_graph.specs.Listed.{is_in, set_in}
use Rattle.vx_graph.proofs.Lists.{none_set, none_marked}
use Rattle.vx_graph.proofs.found.Found.new.Goals as goal

pub invariant_of-result : goal.invariant_of-result
invariant_of-result c =
    let items = c.in_ok-vec.ensures.items_if_clones_equal (λ y e. e) in
    record {
      counted = ap length c.new.ensures.items ∙ none_set c.args.members ∙ ap set_in (sym items);
      marked = λ n within. subst (λ ms. n < length ms → get_or ms n false ≡ is_in c.new.result.items n) (sym items) (λ w. none_marked c.args.members n w ∙ ap (λ ms. is_in ms n) (sym c.new.ensures.items)) within;
      within = subst (All (λ m. m.0 < length c.in_ok-vec.field-0.items)) (sym c.new.ensures.items) (All-nil (λ (m : MemberId). m.0 < length c.in_ok-vec.field-0.items));
    }

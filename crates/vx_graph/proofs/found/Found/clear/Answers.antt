use Rattle.std.proofs.Common.{◌≡◌, ◌<◌, ◌∙◌, ◌&&◌, sym, ap, subst, length, ℕ}
use Rattle.std.specs.Prelude.{All, not}
use Rattle.std.proofs.lemmas.List.Elements.{All-nil}
use Rattle.vx_ast.specs.declared.MemberId.{MemberId}
use Rattle.vx_graph.specs.Listed.{is_in, is_marked}
use Rattle.vx_graph.proofs.Marks.{none_left, none_counted}
use Rattle.vx_graph.proofs.found.Found.clear.Goals as goal

pub invariant_of-self : goal.invariant_of-self
invariant_of-self c =
    let old = c.args.self.now in
    let marks = c.unmark.new.marks.items in
    let taken = subst (λ ms. (n : ℕ) → is_marked marks n ≡ (is_marked old.marks.items n && not (is_in ms n))) c.deref.ensures.value c.unmark.ensures.marks in
    let none = none_left old.marks.items marks old.order.items old.marked taken c.unmark.ensures.members in
    record {
      counted = ap length c.clear.ensures.items ∙ none_counted marks none;
      marked = λ n within. none n within ∙ ap (λ ms. is_in ms n) (sym c.clear.ensures.items);
      within = subst (All (λ m. m.0 < length marks)) (sym c.clear.ensures.items) (All-nil (λ (m : MemberId). m.0 < length marks));
    }

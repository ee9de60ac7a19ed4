use Rattle.std.proofs.Common.{ℕ, length, ◌≡◌, sym, subst, true, ◌&&◌}
use Rattle.std.specs.Prelude.{◌↔◌}
use Rattle.vx_graph.specs.Listed.{is_in, AreThose}
use Rattle.vx_graph.specs.Reach.{Rows, Reaches}
use Rattle.vx_graph.proofs.Turned.{back, reaches_within, those_of_both}
use Rattle.vx_graph.proofs.search.group.Goals as goal

pub returns-clause-members : goal.returns-clause-members
returns-clause-members c =
    let edges = c.args.edges.now in
    let targets = edges.targets.items in
    let sources = edges.sources.items in
    let m = c.args.member.0 in
    let after = c.in_ok-after.after.order.items in
    let before = c.in_ok-before.before.order.items in
    let is_after = subst (λ (rows : Rows). (n : ℕ) → (is_in after n ≡ true) ↔ Reaches rows m n) c.deref.ensures.value c.in_ok-after.ensures.found in
    let is_before = subst (λ (rows : Rows). (n : ℕ) → (is_in before n ≡ true) ↔ Reaches rows m n) c.deref-2.ensures.value c.in_ok-before.ensures.found in
    those_of_both (length targets) c.in_ok-both.both.items after before (λ n. Reaches targets m n) (λ n. Reaches targets n m)
    (subst (λ n. AreThose (λ k. is_in after k && is_in before k) n c.in_ok-both.both.items) c.len.ensures c.in_ok-both.ensures)
    is_after (λ n. ((λ e. back sources targets (λ a b. sym (edges.turned b a)) ((is_before n).0 e)), (λ r. (is_before n).1 (back targets sources edges.turned r))))
    (λ n r. reaches_within (length targets) targets edges.targets_in r)

use Rattle.std.proofs.Common.{ℕ, length, ◌≡◌, subst, true, ◌&&◌, nat_eq}
use Rattle.std.specs.Prelude.{◌↔◌, not}
use Rattle.vx_graph.specs.Listed.{is_in, AreThose}
use Rattle.vx_graph.specs.Reach.{Rows, Reaches}
use Rattle.vx_graph.proofs.Turned.{reaches_within, those_but_one}
use Rattle.vx_graph.proofs.search.rests.Goals as goal

pub returns-clause-members : goal.returns-clause-members
returns-clause-members c =
    let edges = c.args.edges.now in
    let targets = edges.targets.items in
    let m = c.args.member.0 in
    let found = c.in_ok-found.found.order.items in
    those_but_one (length targets) m c.in_ok-others.others.items found (λ n. Reaches targets m n)
    (subst (λ n. AreThose (λ k. not (nat_eq k m) && is_in found k) n c.in_ok-others.others.items) c.len.ensures c.in_ok-others.ensures)
    (subst (λ (rows : Rows). (n : ℕ) → (is_in found n ≡ true) ↔ Reaches rows m n) c.deref.ensures.value c.in_ok-found.ensures.found)
    (λ n r. reaches_within (length targets) targets edges.targets_in r)

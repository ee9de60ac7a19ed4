use Rattle.std.proofs.Common.{◌≡◌, ℕ, true, subst, List, Bool}
use Rattle.std.specs.Prelude.{◌↔◌}
use Rattle.vx_graph.specs.Listed.{is_in}
use Rattle.vx_graph.specs.Reach.{Rows}
use Rattle.vx_graph.specs.Within.{ReachesWithin}
use Rattle.vx_graph.proofs.Marks.{marks_tell}
use Rattle.vx_graph.proofs.Roots.{group_found}
use Rattle.vx_graph.proofs.groups.Grouping.find.Goals as goal

pub returns-clause-group : goal.returns-clause-group
returns-clause-group c whole here n =
    let edges = c.args.edges.now in
    let targets = edges.targets.items in
    let sources = edges.sources.items in
    let left = c.args.self.now.left.items in
    let m = c.args.member.0 in
    let before = c.find_within.new.found in
    let after = c.find_within-2.new.found in
    let first : (k : ℕ) → (is_in before.order.items k ≡ true) ↔ ReachesWithin left sources m k =
    subst (λ (rows : Rows). (k : ℕ) → (is_in before.order.items k ≡ true) ↔ ReachesWithin left rows m k) c.deref.ensures.value
    (subst (λ (marks : List Bool). (k : ℕ) → (is_in before.order.items k ≡ true) ↔ ReachesWithin marks c.deref.result.now m k) c.deref-2.ensures.value c.in_ok-find_within.ensures.found) in
    let second : (k : ℕ) → (is_in after.order.items k ≡ true) ↔ ReachesWithin before.marks.items targets m k =
    subst (λ (rows : Rows). (k : ℕ) → (is_in after.order.items k ≡ true) ↔ ReachesWithin before.marks.items rows m k) c.deref-3.ensures.value
    (subst (λ (marks : List Bool). (k : ℕ) → (is_in after.order.items k ≡ true) ↔ ReachesWithin marks c.deref-3.result.now m k) c.deref-4.ensures.value c.in_ok-find_within-2.ensures.found) in
    let tell = marks_tell before.marks.items before.order.items before.within before.marked in
    let exact = group_found targets sources edges.turned left before.marks.items m whole here (λ k. ((λ t. (first k).0 ((tell k).0 t)), (λ way. (tell k).1 ((first k).1 way)))) n in
    ((λ e. exact.0 ((second n).0 e)), (λ t. (second n).1 (exact.1 t)))

use Rattle.std.proofs.Common.{◌≡◌, ◌<◌, ◌∙◌, ℕ, sym, subst, length, true}
use Rattle.std.specs.Prelude.{All, Some}
use Rattle.std.proofs.lemmas.List.{nil_from_length}
use Rattle.std.proofs.lemmas.List.Elements.{All-pop}
use Rattle.vx_ast.specs.declared.MemberId.{MemberId}
use Rattle.vx_graph.specs.Listed.{is_in}
use Rattle.vx_graph.specs.Reach.{Rows}
use Rattle.vx_graph.proofs.Marks.{marked_within}
use Rattle.vx_graph.proofs.Roots.{rooted_first, rooted_last, still_left, none_left_behind}
use Rattle.vx_graph.proofs.Turned.{reaches_within}
use Rattle.vx_graph.proofs.groups.all_groups.Goals as goal

pub loop-member-init : goal.loop-member-init
loop-member-init c =
    let edges = c.args.edges.now in
    let rows = edges.targets.items in
    let ends = c.in_ok-ends.ends.items in
    let g = c.in_ok-grouping.grouping in
    let members : length g.roots.items ≡ length rows = c.in_ok-grouping.ensures.members ∙ c.len.ensures in
    let known : (n : ℕ) → n < length rows → is_in ends n ≡ true = subst (λ (rs : Rows). (n : ℕ) → n < length rs → is_in ends n ≡ true) c.deref.ensures.value c.in_ok-ends.ensures.all in
    record {
      members = members;
      within = subst (λ (rs : Rows). All (λ m. m.0 < length rs) ends) c.deref.ensures.value c.in_ok-ends.ensures.within;
      rooted = rooted_first rows g.roots.items g.left.items edges.targets_in c.in_ok-grouping.ensures.roots (λ n lt. c.in_ok-grouping.ensures.left n (subst (λ k. n < k) (sym c.len.ensures) lt));
      all = λ n t. known n (subst (λ k. n < k) (g.left_each ∙ members) (marked_within g.left.items n t));
    }

pub loop-member-preserved : goal.loop-member-preserved
loop-member-preserved c =
    let rows = c.args.edges.now.targets.items in
    let i = c.loop-member.invariant in
    let old = c.loop-member.ends.items in
    let new = c.pop.new.self.items in
    let m = c.in-Some.member in
    record {
      members = c.in_ok-settle.ensures.members ∙ i.members;
      within = (All-pop (λ (k : MemberId). k.0 < length rows) old new (Some m) c.in-Some.ensures.items i.within).0;
      rooted = c.in_ok-settle.ensures.rooted i.rooted;
      all = still_left old new m c.loop-member.grouping.left.items c.settle.new.self.left.items c.in-Some.ensures.items i.all c.in_ok-settle.ensures.settled c.in_ok-settle.ensures.fewer;
    }

pub returns-clause-roots : goal.returns-clause-roots
returns-clause-roots c a b =
    let g = c.loop-member.grouping in
    let i = c.loop-member.invariant in
    rooted_last c.args.edges.now.targets.items g.roots.items g.left.items i.rooted (none_left_behind c.loop-member.ends.items g.left.items (nil_from_length c.loop-member.ends.items (sym c.loop-member.ends.ok.0 ∙ c.in_default.ensures.cases.0)) i.all) a b

pub returns-clause-own : goal.returns-clause-own
returns-clause-own c a r e =
    let edges = c.args.edges.now in
    reaches_within (length edges.targets.items) edges.targets.items edges.targets_in (c.loop-member.invariant.rooted.sound a r e).0

use Rattle.std.proofs.Common.{◌≡◌, ◌<◌, ◌∙◌, ◌&&◌, ap, sym, subst, true, false, nat_eq, if◌then◌else◌}
use Rattle.std.specs.Prelude.{not, Some}
use Rattle.std.proofs.lemmas.List.{get_or_read}
use Rattle.vx_graph.specs.Groups.{root_at}
use Rattle.vx_graph.specs.Listed.{is_in, is_marked}
use Rattle.vx_graph.proofs.Roots.{rooted_more}
use Rattle.vx_graph.proofs.groups.Grouping.settle.Goals as goal

pub returns-in_ok-find-clause-rooted : goal.returns-in_ok-find-clause-rooted
returns-in_ok-find-clause-rooted c r =
    let old = c.args.self.now in
    let new = c.close.new.self in
    let m = c.args.member in
    let after = c.find.new.self.after.order.items in
    let here : is_marked old.left.items m.0 ≡ true = sym (get_or_read old.left.items m.0 c.index.result.now (subst (λ k. m.0 < k) (sym old.left_each) c.requires.member) c.index.ensures false) ∙ c.if-index.true in
    rooted_more c.args.edges.now.targets.items old.roots.items new.roots.items old.left.items new.left.items (is_in after) m
    (c.in_ok-find.ensures.group r.whole here)
    (λ n. c.close.ensures.roots n ∙ ap (λ rs. if is_in after n then Some m else root_at rs n) c.in_ok-find.ensures.roots)
    (λ n. c.close.ensures.left n ∙ ap (λ marks. (is_marked marks n && not (is_in after n)) && not (nat_eq m.0 n)) c.in_ok-find.ensures.left)
    here r

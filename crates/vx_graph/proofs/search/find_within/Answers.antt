use Rattle.std.proofs.Common.{◌≡◌, ◌<◌, ◌≤◌, ◌-◌, ◌+◌, ℕ, ◌∙◌, subst, length, arith}
use Rattle.vx_graph.specs.Listed.{set_in}
use Rattle.vx_graph.proofs.Lists.{at_most_all}
use Rattle.vx_graph.proofs.Searches.{Grows, FindsAll, searched_first, searched_more, searched_all, searched_sound}
use Rattle.vx_graph.proofs.search.find_within.Goals as goal

smaller : (all next order set marks : ℕ) → order ≡ set → set ≤ marks → marks ≡ all → next < order → all - (next + 1) < all - next
smaller all next order set marks e few same before = omega arith

pub loop-next-init : goal.loop-next-init
loop-next-init c =
    let e = c.in_ok-find_all.ensures in
    let marks = c.args.marks.now in
    let old = c.args.found.now.order.items in
    let new = c.find_all.new.found.order.items in
    record {
      members = e.members ∙ c.requires.members;
      searched = searched_first marks c.args.rows.now c.args.from.0 old new c.index-rows-from.result c.requires.within c.requires.from c.index-rows-from.is c.requires.none
          (subst (λ row. Grows marks row old new) c.deref.ensures.value e.order) (subst (λ row. FindsAll marks row new) c.deref.ensures.value e.found);
    }

pub loop-next-smaller : goal.loop-next-smaller
loop-next-smaller c =
    let f = c.loop-next.found in
    smaller (length c.args.rows.now) c.loop-next.next (length f.order.items) (set_in f.marks.items) (length f.marks.items) f.counted (at_most_all f.marks.items) c.loop-next.invariant.members (omega (arith, c.loop-next-test.true, c.len.ensures))

pub loop-next-preserved : goal.loop-next-preserved
loop-next-preserved c =
    let e = c.in_ok-find_all-2.ensures in
    let marks = c.args.marks.now in
    let old = c.loop-next.found.order.items in
    let new = c.find_all-in-loop-next.new.found.order.items in
    record {
      members = e.members ∙ c.loop-next.invariant.members;
      searched = searched_more marks c.args.rows.now c.args.from.0 old new c.loop-next.next c.index-at.result.now c.index-rows-at.result c.requires.within (omega (arith, c.loop-next-test.true, c.len.ensures)) c.index-at.ensures c.index-rows-at.is c.loop-next.invariant.searched
          (subst (λ row. Grows marks row old new) c.deref-in-loop-next.ensures.value e.order) (subst (λ row. FindsAll marks row new) c.deref-in-loop-next.ensures.value e.found);
    }

pub returns-clause-found : goal.returns-clause-found
returns-clause-found c b =
    let s = c.loop-next.invariant.searched in
    (searched_sound _ _ _ _ _ s b, searched_all _ _ _ _ _ s (omega (arith, c.loop-next-test.false, c.len.ensures)) b)

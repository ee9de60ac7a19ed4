use Rattle.std.proofs.lemmas.Grind.{elements}
use Rattle.std.proofs.Common.{◌<◌, ◌∙◌, ◌++◌, ◌∷◌, [], ap, sym, subst, length, false, arith}
use Rattle.std.proofs.lemmas.List.{get_or_read}
use Rattle.vx_graph.specs.declared.order.Step.TheVariants.{Enter, Leave}
use Rattle.vx_graph.specs.Order.{entries}
use Rattle.vx_graph.proofs.Orders.{member_below, walks_seen, walks_entered, does_more}
use Rattle.vx_graph.proofs.Searches.{row_within}
use Rattle.vx_graph.proofs.order.Walk.enter.Goals as goal

pub returns-in_ok-enter_all-clause-walks : goal.returns-in_ok-enter_all-clause-walks
returns-in_ok-enter_all-clause-walks c =
    let rows = c.args.rows.now in
    let old = c.args.self.now in
    let m = c.args.member in
    let row = c.index-rows-at.result in
    let within : m.0 < length rows = member_below (length rows) old.stack.items old.seen.items old.ends.items (Enter m) c.requires.walks in
    walks_entered (length rows) old.stack.items old.seen.items old.ends.items m c.enter_all.new.stack.items row.items c.requires.walks
    (row_within rows m.0 row within c.index-rows-at.is c.requires.within)
    (c.in_ok-enter_all.ensures ∙ ap (λ xs. xs ++ entries c.deref.result.now) c.in_ok-push.ensures.items ∙ ap (λ ms. (old.stack.items ++ Leave m ∷ []) ++ entries ms) c.deref.ensures.value)

pub returns-in_ok-enter_all-clause-fewer : goal.returns-in_ok-enter_all-clause-fewer
returns-in_ok-enter_all-clause-fewer c =
    let rows = c.args.rows.now in
    let old = c.args.self.now in
    let m = c.args.member in
    let row = c.index-rows-at.result in
    let within : m.0 < length rows = member_below (length rows) old.stack.items old.seen.items old.ends.items (Enter m) c.requires.walks in
    let in_seen : m.0 < length old.seen.items = subst (λ k. m.0 < k) (sym c.requires.walks.each) within in
    does_more rows old.stack.items c.enter_all.new.stack.items old.seen.items m row within c.index-rows-at.is c.requires.walks.each
    (sym (get_or_read old.seen.items m.0 c.index.result.now in_seen c.index.ensures false) ∙ c.if-not-index.true)
    (c.in_ok-enter_all.ensures ∙ ap (λ xs. xs ++ entries c.deref.result.now) c.in_ok-push.ensures.items ∙ ap (λ ms. (old.stack.items ++ Leave m ∷ []) ++ entries ms) c.deref.ensures.value)

pub returns-else-not-index-clause-walks : goal.returns-else-not-index-clause-walks
returns-else-not-index-clause-walks c =
    let rows = c.args.rows.now in
    let old = c.args.self.now in
    let m = c.args.member in
    let within : m.0 < length rows = member_below (length rows) old.stack.items old.seen.items old.ends.items (Enter m) c.requires.walks in
    let in_seen : m.0 < length old.seen.items = subst (λ k. m.0 < k) (sym c.requires.walks.each) within in
    walks_seen (length rows) old.stack.items old.seen.items old.ends.items m c.requires.walks
    (sym (get_or_read old.seen.items m.0 c.index.result.now in_seen c.index.ensures false) ∙ c.if-not-index.false)

pub index-requires : goal.index-requires
index-requires c = grind (arith, elements)

pub index_mut-requires : goal.index_mut-requires
index_mut-requires c = grind (arith, elements)

pub bounds-rows-at : goal.bounds-rows-at
bounds-rows-at c = grind (arith, elements)

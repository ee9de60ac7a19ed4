use Rattle.std.proofs.Common.{◌+◌, ◌<◌, ap, sym, ◌∙◌, length, subst, true, false}
use Rattle.std.specs.Prelude.{All}
use Rattle.std.proofs.lemmas.List.{length-append, length-set, get_or_read}
use Rattle.std.proofs.lemmas.List.Elements.{All-push}
use Rattle.vx_ast.specs.declared.MemberId.{MemberId}
use Rattle.vx_graph.specs.Listed.{is_in}
use Rattle.vx_graph.proofs.Lists.{one_more, marks_more, pushed}
use Rattle.vx_graph.proofs.found.Found.mark.Goals as goal

pub invariant_of-self-then-not-index-clause-counted : goal.invariant_of-self-then-not-index-clause-counted
invariant_of-self-then-not-index-clause-counted c =
    let old = c.args.self.now in
    ap length c.in_ok-push.ensures.items ∙ length-append old.order.items _ ∙ ap (λ n. n + 1) old.counted
    ∙ sym (one_more old.marks.items c.args.member.0 c.requires (sym (get_or_read old.marks.items c.args.member.0 c.index.result.now c.requires c.index.ensures false) ∙ c.if-not-index.true))

pub invariant_of-self-then-not-index-clause-marked : goal.invariant_of-self-then-not-index-clause-marked
invariant_of-self-then-not-index-clause-marked c n within =
    let old = c.args.self.now in
    marks_more old.marks.items old.order.items c.args.member old.marked n (subst (λ k. n < k) (length-set old.marks.items c.args.member.0 true) within)
    ∙ ap (λ ms. is_in ms n) (sym c.in_ok-push.ensures.items)

pub invariant_of-self-then-not-index-clause-within : goal.invariant_of-self-then-not-index-clause-within
invariant_of-self-then-not-index-clause-within c =
    let old = c.args.self.now in
    subst (λ n. All (λ m. m.0 < n) c.push.new.self.items) (sym (length-set old.marks.items c.args.member.0 true))
    (subst (All (λ m. m.0 < length old.marks.items)) (sym c.in_ok-push.ensures.items) (All-push (λ (m : MemberId). m.0 < length old.marks.items) old.order.items c.args.member old.within c.requires))

pub returns-in_ok-push-clause-found : goal.returns-in_ok-push-clause-found
returns-in_ok-push-clause-found c = ap (λ ms. is_in ms c.args.member.0) c.in_ok-push.ensures.items ∙ pushed c.args.self.now.order.items c.args.member

pub returns-else-not-index-clause-found : goal.returns-else-not-index-clause-found
returns-else-not-index-clause-found c =
    let old = c.args.self.now in
    sym (old.marked c.args.member.0 c.requires)
    ∙ sym (get_or_read old.marks.items c.args.member.0 c.index.result.now c.requires c.index.ensures false) ∙ c.if-not-index.false

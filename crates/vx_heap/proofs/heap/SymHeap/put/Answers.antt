use Rattle.std.proofs.Common.{◌≡◌, ◌∙◌, ap, sym, subst, true, false, Some, None}
use Rattle.std.proofs.lemmas.Result.{IfOk-weaker}
use Rattle.vx_terms.specs.Build.{zero_amount}
use Rattle.vx_terms.specs.Terms.{same}
use Rattle.vx_terms.specs.Views.{term}
use Rattle.vx_rules.specs.Chunks.{chosen}
use Rattle.vx_heap.specs.Heaps.{IsFirst}
use Rattle.vx_heap.specs.Views.{chunk, heap, key, terms_of}
use Rattle.vx_heap.proofs.Heaps.{put_by}
use Rattle.vx_heap.proofs.heap.SymHeap.put.Goals as goal

pub returns-in-Some-clause-ok : goal.returns-in-Some-clause-ok
returns-in-Some-clause-ok c =
    let new = chunk c.args.new in
    let h = heap c.args.self.now in
    let o = Some c.in-Some.at in
    let here : IsFirst o h (chosen true (key c.args.new.resource c.deref-2.result.now) 0 h) =
    subst (λ x. IsFirst x h (chosen true (key c.args.new.resource c.deref-2.result.now) 0 h)) c.in-Some.is c.find.ensures in
    let first : IsFirst o h (chosen true (key c.args.new.resource c.args.new.arguments.items) 0 h) =
    subst (λ ts. IsFirst o h (chosen true (key c.args.new.resource ts) 0 h)) c.deref-2.ensures.value here in
    let some : same new.amount zero_amount ≡ false = ap (λ t. same (term t) zero_amount) (sym c.deref.ensures) ∙ sym c.is_zero.ensures ∙ c.if-is_zero.false in
    IfOk-weaker c.put_into.result _ _
    (λ facts m s level. put_by o c.args.summed c.args.bounded new h (heap c.put_into.new.self) (terms_of facts.items) first m some s level)
    c.put_into.ensures.ok

pub returns-in-None-clause-ok : goal.returns-in-None-clause-ok
returns-in-None-clause-ok c =
    let new = chunk c.args.new in
    let h = heap c.args.self.now in
    let here : IsFirst None h (chosen true (key c.args.new.resource c.deref-2.result.now) 0 h) =
    subst (λ x. IsFirst x h (chosen true (key c.args.new.resource c.deref-2.result.now) 0 h)) c.in-None.is c.find.ensures in
    let first : IsFirst None h (chosen true (key c.args.new.resource c.args.new.arguments.items) 0 h) =
    subst (λ ts. IsFirst None h (chosen true (key c.args.new.resource ts) 0 h)) c.deref-2.ensures.value here in
    let some : same new.amount zero_amount ≡ false = ap (λ t. same (term t) zero_amount) (sym c.deref.ensures) ∙ sym c.is_zero.ensures ∙ c.if-is_zero.false in
    IfOk-weaker c.put_beside.result _ _
    (λ facts m s level. put_by None c.args.summed c.args.bounded new h (heap c.put_beside.new.self) (terms_of facts.items) first m some s level)
    c.put_beside.ensures.ok

use Rattle.std.proofs.Common.{◌≡◌, ◌∙◌, ap, sym, refl}
use Rattle.std.specs.Prelude.{string_bytes}
use Rattle.vx_resolved.specs.Settled.{settled}
use Rattle.vx_heap.specs.declared.chunk.Resource.TheVariants as resource
use Rattle.vx_heap.specs.Views.{key, terms_of, held_term}
use Rattle.vx_rules.specs.Chunks.{instance_key}
use Rattle.vx_rules.specs.Rules.{leads_inside}
use Rattle.vx_rules.specs.States.{Chunk, State}
use Rattle.vx_rules.specs.Trees.{Tree, UnfoldCode}
use Rattle.vx_states.specs.SymStates.{state}
use Rattle.vx_stack.specs.declared.frame.Next.{Next}
use Rattle.vx_stack.specs.declared.waiting.Instance.{Instance}
use Rattle.vx_stack.specs.Stack.{body_of, going}
use Rattle.vx_stack.specs.Values.{values}
use Rattle.vx_terms.specs.Sorts.{SnapSort}
use Rattle.vx_terms.specs.Views.{term}
use Rattle.vx_probes.proofs.Firsts.{stepped_by}
use Rattle.vx_probes.proofs.Takes.{exchanged_once_taken, key_of_instance, takes}
use Rattle.vx_probes.proofs.starts.unfold.Goals as goal

pub returns : goal.returns
returns c =
    let p = settled c.args.program.now in
    let x = c.args.instance.value in
    let a = held_term x.amount in
    let us = values x.arguments.value in
    let s = state c.args.state in
    let items = c.in_ok-arguments.arguments.items in
    let arguments : terms_of items ≡ us = c.in_ok-arguments.ensures ∙ ap values c.deref-3.ensures ∙ ap (λ (y : Instance). values y.arguments.value) c.deref-2.ensures in
    let name = c.in_ok-clone.ensures.cases ∙ ap (λ (y : Instance). y.predicate.value) c.deref-4.ensures in
    let amount : held_term c.in_ok-amount.amount ≡ a = ap term c.in_ok-amount.ensures.cases ∙ ap (λ (y : Instance). held_term y.amount) c.deref-5.ensures in
    let on = λ (n : Next) (k : Chunk) (s1 : State). body_of p x k.value (leads_inside k) s1 (going p n) in
    stepped_by p c.take.result _ _ _ c.take.ensures _
    (exchanged_once_taken p x.place (string_bytes x.predicate.value) us a (going p c.args.next.now.value) s
    ∙ sym (takes (key (resource.Predicate c.in_ok-clone.field-0) items) (instance_key (string_bytes x.predicate.value) us) (held_term c.in_ok-amount.amount) a SnapSort SnapSort c.deref.result.now.place x.place UnfoldCode s s
    (on c.in_ok-clone-2.field-0.value) (on c.args.next.now.value)
    (key_of_instance c.in_ok-clone.field-0 x.predicate items us name arguments) amount refl (ap (λ (y : Instance). y.place) c.deref.ensures) refl
    (ap {B = Chunk → State → Tree} on c.in_ok-clone-2.ensures.cases)))

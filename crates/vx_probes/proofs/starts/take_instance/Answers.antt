use Rattle.std.proofs.Common.{◌≡◌, ◌∙◌, ap, sym, refl}
use Rattle.std.specs.Prelude.{string_bytes}
use Rattle.vx_resolved.specs.Settled.{settled}
use Rattle.vx_heap.specs.declared.chunk.Resource.TheVariants as resource
use Rattle.vx_heap.specs.Views.{heap, key, terms_of, held_term}
use Rattle.vx_rules.specs.Chunks.{instance_key}
use Rattle.vx_rules.specs.Codes.{code}
use Rattle.vx_rules.specs.Rules.{placed}
use Rattle.vx_rules.specs.States.{Chunk, State, with_heap}
use Rattle.vx_rules.specs.Trees.{Tree}
use Rattle.vx_states.specs.SymStates.{state}
use Rattle.vx_stack.specs.declared.frame.Hole.{Hole}
use Rattle.vx_stack.specs.Stack.{giving}
use Rattle.vx_stack.specs.Values.{values}
use Rattle.vx_terms.specs.Sorts.{SnapSort}
use Rattle.vx_probes.proofs.Firsts.{stepped_by}
use Rattle.vx_probes.proofs.Takes.{key_of_instance, takes}
use Rattle.vx_probes.proofs.starts.take_instance.Goals as goal

pub returns : goal.returns
returns c =
    let p = settled c.args.program.now in
    let x = c.args.instance.now in
    let a = held_term x.amount in
    let us = values x.arguments.value in
    let before = state c.args.state in
    let s = with_heap (heap c.args.heap.now.value) before in
    let items = c.in_ok-arguments.arguments.items in
    let there : state c.exchange_heap-before.new.self ≡ s = c.exchange_heap-before.ensures.after ∙ ap (λ y. with_heap (heap y) before) c.in_ok-clone.ensures.cases in
    let arguments : terms_of items ≡ us = c.in_ok-arguments.ensures ∙ ap values c.deref.ensures in
    let on = λ (h : Hole) (k : Chunk) (s1 : State). giving p h k.value s1 in
    stepped_by p c.take.result _ _ _ c.take.ensures _
    (sym (takes (key (resource.Predicate c.in_ok-clone-2.field-0) items) (instance_key (string_bytes x.predicate.value) us) a a SnapSort SnapSort c.placed-place.result (placed before x.place) (code c.args.code) (state c.exchange_heap-before.new.self) s
    (on c.in_ok-clone-3.field-0.value) (on c.args.hole.now.value)
    (key_of_instance c.in_ok-clone-2.field-0 x.predicate items us c.in_ok-clone-2.ensures.cases arguments) refl refl c.placed-place.ensures there
    (ap {B = Chunk → State → Tree} on c.in_ok-clone-3.ensures.cases)))

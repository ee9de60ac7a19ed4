use Rattle.std.proofs.Common.{◌≡◌, ◌∙◌, ap, sym, true, false, [], ◌∷◌}
use Rattle.std.specs.Prelude.{string_bytes}
use Rattle.vx_ast.specs.declared.Place.{Place}
use Rattle.vx_resolved.specs.Settled.{settled}
use Rattle.vx_heap.specs.Views.{heap, held_term}
use Rattle.vx_rules.specs.Chunks.{field_key}
use Rattle.vx_rules.specs.Codes.{code}
use Rattle.vx_rules.specs.Rules.{field_sort, placed}
use Rattle.vx_rules.specs.States.{State, is_quiet, with_heap}
use Rattle.vx_probes.specs.Firsts.{take_first}
use Rattle.vx_stack.specs.declared.waiting.Location.{Location}
use Rattle.vx_states.specs.SymStates.{state}
use Rattle.vx_stack.specs.Stack.{giving}
use Rattle.vx_probes.proofs.Firsts.{stepped_by}
use Rattle.vx_probes.proofs.Levels.{take_summed, takes_location}
use Rattle.vx_probes.proofs.starts.take_location.Goals as goal

pub returns-then-is_quiet : goal.returns-then-is_quiet
returns-then-is_quiet c =
    let p = settled c.args.program.now in
    let l = c.args.location.now.value in
    let before : State = state c.args.state in
    let s : State = with_heap (heap c.args.heap.now.value) before in
    let there : state c.exchange_heap-before.new.self ≡ s = c.exchange_heap-before.ensures.after ∙ ap (λ y. with_heap (heap y) before) c.in_ok-clone.ensures.cases in
    let at : c.placed-place.result ≡ placed before l.place = c.placed-place.ensures ∙ ap (λ (y : Location). placed before y.place) c.deref.ensures in
    let on = giving p c.args.hole.now.value in
    let first = λ (y : Location) (at : Place) (z : State). take_first (field_key (string_bytes y.field.value) (held_term y.receiver)) (held_term y.amount) (field_sort p (string_bytes y.field.value)) at (code c.args.code) z (λ k s1. on k.value s1) in
    stepped_by p c.probe_location.result _ _ _ c.probe_location.ensures _
    (takes_location p (string_bytes l.field.value) (held_term l.receiver) (placed before l.place) s on (held_term l.amount) (code c.args.code) true
    (ap (λ (z : State). is_quiet z) (sym there) ∙ sym c.is_quiet.ensures ∙ c.if-is_quiet.true)
    ∙ ap (λ y. first y (placed before l.place) s) (sym c.deref-then-is_quiet.ensures)
    ∙ ap (λ y. first c.deref-then-is_quiet.result.now y s) (sym at)
    ∙ ap (λ z. first c.deref-then-is_quiet.result.now c.placed-place.result z) (sym there))

pub returns : goal.returns
returns c =
    let p = settled c.args.program.now in
    let l = c.args.location.now.value in
    let before : State = state c.args.state in
    let s : State = with_heap (heap c.args.heap.now.value) before in
    let there : state c.exchange_heap-before.new.self ≡ s = c.exchange_heap-before.ensures.after ∙ ap (λ y. with_heap (heap y) before) c.in_ok-clone.ensures.cases in
    let at : c.placed-place.result ≡ placed before l.place = c.placed-place.ensures ∙ ap (λ (y : Location). placed before y.place) c.deref.ensures in
    let on = giving p c.args.hole.now.value in
    let summed = λ (at : Place) (z : State). take_summed p (string_bytes l.field.value) (held_term l.receiver) at z on (held_term l.amount) (code c.args.code) in
    stepped_by p c.take.result _ _ _ c.take.ensures _
    (takes_location p (string_bytes l.field.value) (held_term l.receiver) (placed before l.place) s on (held_term l.amount) (code c.args.code) false
    (ap (λ (z : State). is_quiet z) (sym there) ∙ sym c.is_quiet.ensures ∙ c.if-is_quiet.false)
    ∙ ap (λ y. summed y s) (sym at)
    ∙ ap (λ z. summed c.placed-place.result z) (sym there))

use Rattle.std.proofs.Common.{◌≡◌, ◌∙◌, ap, sym, true, [], ◌∷◌, Some, None}
use Rattle.std.specs.Prelude.{option_map, string_bytes}
use Rattle.vx_heap.specs.declared.chunk.Chunk.{Chunk as Chunk'}
use Rattle.vx_heap.specs.declared.heap.SymHeap.{SymHeap}
use Rattle.vx_heap.specs.Views.{candidate, heap, held_term}
use Rattle.vx_resolved.specs.Settled.{settled}
use Rattle.vx_rules.specs.Chunks.{Candidate, chosen, field_key, holds_amount, reduced, surely}
use Rattle.vx_rules.specs.Codes.{code}
use Rattle.vx_rules.specs.Rules.{Giving}
use Rattle.vx_rules.specs.States.{State, with_heap}
use Rattle.vx_rules.specs.Trees.{Step}
use Rattle.vx_stack.specs.declared.waiting.Location.{Location}
use Rattle.vx_stack.specs.Stack.{giving, take_over, wanted_by}
use Rattle.vx_stack.proofs.Steps.{stepped_as}
use Rattle.vx_states.specs.SymStates.{state}
use Rattle.vx_sums.proofs.Sums.{by_all, by_own}
use Rattle.vx_terms.specs.Build.{less_equal}
use Rattle.vx_terms.specs.Terms.{Term}
use Rattle.vx_terms.specs.Views.{term}
use Rattle.vx_sums.proofs.starts.take.Goals as goal

pub returns-in_ok-clone-in-Some : goal.returns-in_ok-clone-in-Some
returns-in_ok-clone-in-Some c =
    let p = settled c.args.program.now in
    let s : State = state c.args.state in
    let l = c.args.location.now.value in
    let f = string_bytes l.field.value in
    let r = held_term l.receiver in
    let a = held_term l.amount in
    let on : Giving = giving p c.args.hole.now.value in
    let it = candidate c.in-Some.it in
    let sure = λ (y : Location) (h : SymHeap). surely (wanted_by (Some (held_term y.amount)) (held_term y.receiver ∷ [])) (chosen true (field_key (string_bytes y.field.value) (held_term y.receiver)) 0 (heap h)) in
    let own : surely (wanted_by (Some a) (r ∷ [])) (chosen true (field_key f r) 0 s.heap) ≡ Some it =
    ap (λ h. sure l h) (sym c.deref-2.ensures) ∙ ap (λ y. sure y c.deref-2.result.now) (sym c.deref.ensures) ∙ sym c.in_ok-own.ensures ∙ ap (option_map candidate) c.in-Some.is in
    stepped_as p c.give.result _ _ _ _
    (by_own (holds_amount a (r ∷ [])) (less_equal a) (field_key f r) c.args.place (code c.args.code) s (λ (k : Candidate). on k.chunk.value (with_heap (reduced k a s.heap) s)) (take_over p f r a on) it own
    ∙ ap (λ (k : Chunk'). Step (on (held_term k.value) (with_heap (reduced it a s.heap) s))) (sym c.deref-in-Some-2.ensures)
    ∙ ap (λ (y : Term). Step (on y (with_heap (reduced it a s.heap) s))) (sym (ap term c.in_ok-clone-in-Some.ensures.cases))
    ∙ ap (λ (z : State). Step (on (held_term c.in_ok-clone-in-Some.field-0) z)) (sym (c.in_ok-take-in-Some.ensures ∙ ap (λ (y : Location). with_heap (reduced it (held_term y.amount) s.heap) s) c.deref-in-Some.ensures))) c.give.ensures

pub returns-in-None : goal.returns-in-None
returns-in-None c =
    let p = settled c.args.program.now in
    let s : State = state c.args.state in
    let l = c.args.location.now.value in
    let f = string_bytes l.field.value in
    let r = held_term l.receiver in
    let a = held_term l.amount in
    let on : Giving = giving p c.args.hole.now.value in
    let sure = λ (y : Location) (h : SymHeap). surely (wanted_by (Some (held_term y.amount)) (held_term y.receiver ∷ [])) (chosen true (field_key (string_bytes y.field.value) (held_term y.receiver)) 0 (heap h)) in
    let own : surely (wanted_by (Some a) (r ∷ [])) (chosen true (field_key f r) 0 s.heap) ≡ None =
    ap (λ h. sure l h) (sym c.deref-2.ensures) ∙ ap (λ y. sure y c.deref-2.result.now) (sym c.deref.ensures) ∙ sym c.in_ok-own.ensures ∙ ap (option_map candidate) c.in-None.is in
    stepped_as p c.ask_to_take.result _ _ _ _
    (by_all (holds_amount a (r ∷ [])) (less_equal a) (field_key f r) c.args.place (code c.args.code) s (λ (k : Candidate). on k.chunk.value (with_heap (reduced k a s.heap) s)) (take_over p f r a on) own)
    c.ask_to_take.ensures

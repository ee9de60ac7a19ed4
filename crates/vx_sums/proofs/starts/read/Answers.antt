use Rattle.std.proofs.Common.{◌≡◌, ◌∙◌, ap, sym, true, [], ◌∷◌, Some, None}
use Rattle.std.specs.Prelude.{option_map, string_bytes}
use Rattle.vx_heap.specs.declared.chunk.Chunk.{Chunk as Chunk'}
use Rattle.vx_heap.specs.Views.{candidate, heap, held_term}
use Rattle.vx_resolved.specs.Settled.{settled}
use Rattle.vx_rules.specs.Chunks.{Candidate, chosen, field_key, holds_some, surely}
use Rattle.vx_rules.specs.Rules.{Giving}
use Rattle.vx_rules.specs.States.{State}
use Rattle.vx_rules.specs.Trees.{PermissionCode, Step}
use Rattle.vx_stack.specs.Stack.{giving, read_over, wanted_by}
use Rattle.vx_stack.proofs.Steps.{stepped_as}
use Rattle.vx_states.specs.SymStates.{state}
use Rattle.vx_sums.proofs.Sums.{by_all, by_own}
use Rattle.vx_terms.specs.Build.{less, zero_amount}
use Rattle.vx_terms.specs.Terms.{Term}
use Rattle.vx_terms.specs.Views.{term}
use Rattle.vx_sums.proofs.starts.read.Goals as goal

pub returns-in_ok-clone-in-Some : goal.returns-in_ok-clone-in-Some
returns-in_ok-clone-in-Some c =
    let p = settled c.args.program.now in
    let s : State = state c.args.state in
    let f = string_bytes c.args.field.now.value in
    let r = held_term c.args.receiver in
    let on : Giving = giving p c.args.hole.now.value in
    let it = candidate c.in-Some.it in
    let own : surely (wanted_by None (r ∷ [])) (chosen true (field_key f r) 0 s.heap) ≡ Some it =
    ap (λ h. surely (wanted_by None (r ∷ [])) (chosen true (field_key f r) 0 (heap h))) (sym c.deref.ensures) ∙ sym c.in_ok-own.ensures ∙ ap (option_map candidate) c.in-Some.is in
    stepped_as p c.give.result _ _ _ _
    (by_own (holds_some (r ∷ [])) (less zero_amount) (field_key f r) c.args.place PermissionCode s (λ (k : Candidate). on k.chunk.value s) (read_over p f r on) it own
    ∙ ap (λ (k : Chunk'). Step (on (held_term k.value) s)) (sym c.deref-in-Some.ensures)
    ∙ ap (λ (y : Term). Step (on y s)) (sym (ap term c.in_ok-clone-in-Some.ensures.cases))) c.give.ensures

pub returns-in-None : goal.returns-in-None
returns-in-None c =
    let p = settled c.args.program.now in
    let s : State = state c.args.state in
    let f = string_bytes c.args.field.now.value in
    let r = held_term c.args.receiver in
    let on : Giving = giving p c.args.hole.now.value in
    let own : surely (wanted_by None (r ∷ [])) (chosen true (field_key f r) 0 s.heap) ≡ None =
    ap (λ h. surely (wanted_by None (r ∷ [])) (chosen true (field_key f r) 0 (heap h))) (sym c.deref.ensures) ∙ sym c.in_ok-own.ensures ∙ ap (option_map candidate) c.in-None.is in
    stepped_as p c.ask_to_read.result _ _ _ _
    (by_all (holds_some (r ∷ [])) (less zero_amount) (field_key f r) c.args.place PermissionCode s (λ (k : Candidate). on k.chunk.value s) (read_over p f r on) own)
    c.ask_to_read.ensures

use Rattle.std.proofs.Common.{◌≡◌, ◌∙◌, ap, sym, true, [], ◌∷◌, Some, None}
use Rattle.std.specs.Prelude.{option_map, string_bytes}
use Rattle.vx_heap.specs.declared.heap.SymHeap.{SymHeap}
use Rattle.vx_heap.specs.Views.{candidate, heap, held_term}
use Rattle.vx_resolved.specs.Settled.{settled}
use Rattle.vx_rules.specs.Chunks.{Candidate, chosen, field_key, holds_amount, surely, written}
use Rattle.vx_rules.specs.Rules.{Going}
use Rattle.vx_rules.specs.States.{State}
use Rattle.vx_rules.specs.Trees.{PermissionCode, Step}
use Rattle.vx_stack.specs.declared.frame.Next.{Next}
use Rattle.vx_stack.specs.Stack.{going, wanted_by, write_over}
use Rattle.vx_stack.proofs.Steps.{stepped_as}
use Rattle.vx_states.specs.SymStates.{state}
use Rattle.vx_sums.proofs.Sums.{by_all, by_own}
use Rattle.vx_terms.specs.Build.{less_equal, whole_amount}
use Rattle.vx_terms.specs.Terms.{Term}
use Rattle.vx_terms.specs.Views.{term}
use Rattle.vx_sums.proofs.starts.write.Goals as goal

pub returns-in_ok-clone-in-Some-2 : goal.returns-in_ok-clone-in-Some-2
returns-in_ok-clone-in-Some-2 c =
    let p = settled c.args.program.now in
    let s : State = state c.args.state in
    let f = string_bytes c.args.field.now.value in
    let r = held_term c.args.receiver in
    let t = held_term c.args.value.now in
    let on : Going = going p c.args.next.now.value in
    let it = candidate c.in-Some.it in
    let sure = λ (y : Term) (h : SymHeap). surely (wanted_by (Some y) (r ∷ [])) (chosen true (field_key f r) 0 (heap h)) in
    let own : surely (wanted_by (Some whole_amount) (r ∷ [])) (chosen true (field_key f r) 0 s.heap) ≡ Some it =
    ap (λ h. sure whole_amount h) (sym c.deref.ensures) ∙ ap (λ y. sure y c.deref.result.now) (sym c.in_ok-whole.ensures) ∙ sym c.in_ok-own.ensures ∙ ap (option_map candidate) c.in-Some.is in
    let s1 : State = state c.write.new.self in
    let there : s1 ≡ written it t s = c.in_ok-write-in-Some.ensures ∙ ap (λ y. written it (term y) s) c.in_ok-clone-in-Some.ensures.cases in
    stepped_as p c.go.result _ _ _ _
    (by_own (holds_amount whole_amount (r ∷ [])) (less_equal whole_amount) (field_key f r) c.args.place PermissionCode s (λ (k : Candidate). on (written k t s)) (write_over p f r t on) it own
    ∙ ap (λ (z : State). Step (on z)) (sym there)
    ∙ ap (λ (n : Next). Step (going p n s1)) (sym c.in_ok-clone-in-Some-2.ensures.cases)) c.go.ensures

pub returns-in-None : goal.returns-in-None
returns-in-None c =
    let p = settled c.args.program.now in
    let s : State = state c.args.state in
    let f = string_bytes c.args.field.now.value in
    let r = held_term c.args.receiver in
    let t = held_term c.args.value.now in
    let on : Going = going p c.args.next.now.value in
    let sure = λ (y : Term) (h : SymHeap). surely (wanted_by (Some y) (r ∷ [])) (chosen true (field_key f r) 0 (heap h)) in
    let own : surely (wanted_by (Some whole_amount) (r ∷ [])) (chosen true (field_key f r) 0 s.heap) ≡ None =
    ap (λ h. sure whole_amount h) (sym c.deref.ensures) ∙ ap (λ y. sure y c.deref.result.now) (sym c.in_ok-whole.ensures) ∙ sym c.in_ok-own.ensures ∙ ap (option_map candidate) c.in-None.is in
    stepped_as p c.ask_to_write.result _ _ _ _
    (by_all (holds_amount whole_amount (r ∷ [])) (less_equal whole_amount) (field_key f r) c.args.place PermissionCode s (λ (k : Candidate). on (written k t s)) (write_over p f r t on) own)
    c.ask_to_write.ensures

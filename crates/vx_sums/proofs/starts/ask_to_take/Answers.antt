use Rattle.std.proofs.Common.{◌≡◌, ◌∙◌, ap, refl, sym}
use Rattle.std.specs.Prelude.{string_bytes}
use Rattle.vx_heap.specs.declared.heap.SymHeap.{SymHeap}
use Rattle.vx_heap.specs.Views.{heap, held_term}
use Rattle.vx_resolved.specs.Settled.{settled}
use Rattle.vx_rules.specs.Chunks.{candidates, field_key, sum_at}
use Rattle.vx_rules.specs.Codes.{code}
use Rattle.vx_rules.specs.Rules.{Going}
use Rattle.vx_rules.specs.States.{State}
use Rattle.vx_stack.specs.declared.frame.Frame.TheVariants as frame'
use Rattle.vx_stack.specs.declared.frame.Hole.{Hole}
use Rattle.vx_stack.specs.declared.frame.Next.{Next}
use Rattle.vx_stack.specs.declared.waiting.Location.{Location}
use Rattle.vx_stack.specs.Stack.{frame_tree, giving, going, take_over}
use Rattle.vx_stack.proofs.Steps.{asks, stepped_as}
use Rattle.vx_states.specs.SymStates.{state}
use Rattle.vx_terms.specs.Build.{less_equal}
use Rattle.vx_sums.proofs.starts.ask_to_take.Goals as goal

pub returns : goal.returns
returns c =
    let p = settled c.args.program.now in
    let s : State = state c.args.state in
    let l : Location = c.args.location.now.value in
    let h : Hole = c.args.hole.now.value in
    let asked = λ (y : Location) (z : SymHeap). less_equal (held_term y.amount) (sum_at (held_term y.receiver) (candidates (field_key (string_bytes y.field.value) (held_term y.receiver)) (heap z))) in
    let over = λ (y : Location) (k : Hole) (z : State). take_over p (string_bytes y.field.value) (held_term y.receiver) (held_term y.amount) (giving p k) z in
    let condition : held_term c.in_ok-condition.condition ≡ asked l c.args.state.heap.value =
    c.in_ok-condition.ensures ∙ ap (λ (y : Location). asked y c.deref-2.result.now) c.deref.ensures ∙ ap (λ (z : SymHeap). asked l z) c.deref-2.ensures in
    let frame : ◌≡◌ {A = Going} (frame_tree p (frame'.Go c.in_ok-next.next)) (over l h) =
    ap {B = Going} (λ (n : Next) (z : State). going p n z) c.in_ok-next.ensures.ok
    ∙ ap {B = Going} (λ (y : Location). over y c.in_ok-clone-2.field-0.value) c.in_ok-clone.ensures.cases
    ∙ ap {B = Going} (λ (k : Hole). over l k) c.in_ok-clone-2.ensures.cases in
    stepped_as p c.ask.result _ _ _ _
    (asks (asked l c.args.state.heap.value) (held_term c.in_ok-condition.condition) c.args.place c.args.place (code c.args.code) s (over l h) (frame_tree p (frame'.Go c.in_ok-next.next)) (sym condition) refl (sym frame))
    c.ask.ensures

use Rattle.std.proofs.Common.{◌≡◌, Some, refl, sym}
use Rattle.vx_resolved.specs.Resolved.{assertion, predicate}
use Rattle.vx_resolved.specs.Settled.{settled}
use Rattle.vx_heap.specs.Views.{held_term}
use Rattle.vx_rules.specs.States.{State, bind}
use Rattle.vx_rules.specs.Rules.{Going, back, entered}
use Rattle.vx_states.specs.SymStates.{state}
use Rattle.vx_stack.specs.declared.frame.Next.{Next}
use Rattle.vx_stack.specs.declared.waiting.Instance.{Instance}
use Rattle.vx_stack.specs.Stack.{going}
use Rattle.vx_stack.specs.Values.{values}
use Rattle.vx_stack.proofs.Steps.{stepped_as}
use Rattle.vx_produce.proofs.Others.{part_produced}
use Rattle.vx_produce.proofs.instances.step_exchanged.Goals as goal

pub returns : goal.returns
returns c =
    let p = settled c.args.program.now in
    let s : State = state c.args.state in
    let x : Instance = c.args.instance.now in
    let n : Next = c.args.next.now.value in
    let z : State = record (entered (bind (predicate c.args.d.now).parameters (values x.arguments.value)) x.place s) { inner = c.args.is_inner } in
    let on : Going = λ w. going p n (back s w) in
    let after : Going = going p c.in_ok-after.after.value in
    let same : (w : State) → on w ≡ after w = λ w. sym (c.in_ok-after.ensures p w) in
    stepped_as p _ _ _ _ _
    (part_produced p (assertion c.args.body.now) (assertion c.args.body.now) (held_term x.amount) (Some (held_term c.args.snapshot.now)) z (state c.in_ok-state.state) c.in_ok-production.production.value on after
    (c.rules_read_parts_by_themselves.ensures p z.level c.keeps_apart.ensures) refl c.in_ok-production.ensures.scale c.in_ok-production.ensures.snapshot c.in_ok-state.ensures same) c.step.ensures

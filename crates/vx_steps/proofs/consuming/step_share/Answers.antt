use Rattle.std.proofs.Common.{◌≡◌, string_bytes, ap, sym, ◌∙◌}
use Rattle.vx_heap.specs.Views.{heap, held_term}
use Rattle.vx_resolved.specs.Resolved.{expr}
use Rattle.vx_resolved.specs.Settled.{settled}
use Rattle.vx_rules.specs.States.{State}
use Rattle.vx_rules.specs.Members.{rules}
use Rattle.vx_rules.specs.Rules.{Giving, eval}
use Rattle.vx_states.specs.SymStates.{state}
use Rattle.vx_stack.specs.Stack.{giving}
use Rattle.vx_stack.proofs.Steps.{stepped_as}
use Rattle.vx_consume.proofs.Trees.{shared, shares}
use Rattle.vx_steps.proofs.consuming.step_share.Goals as goal

pub returns : goal.returns
returns c =
    let p = settled c.args.program.now in
    let s : State = state c.args.state in
    let on : Giving = shared p c.args.place (string_bytes c.args.field.now.value) (held_term c.args.receiver) c.args.x.now.value (heap c.args.heap.now.value) (giving p c.args.hole.now.value) in
    let k : giving p c.in_ok-rest.rest.value ≡ on =
    ap (giving p) c.in_ok-rest.ensures.ok
    ∙ shares p c.args.place (string_bytes c.in_ok-clone.field-0.value) (string_bytes c.args.field.now.value) (held_term c.args.receiver) c.in_ok-clone-2.field-0.value c.args.x.now.value (heap c.in_ok-clone-3.field-0.value) (heap c.args.heap.now.value)
    (giving p c.in_ok-clone-4.field-0.value) (giving p c.args.hole.now.value)
    (ap string_bytes c.in_ok-clone.ensures.cases) c.in_ok-clone-2.ensures.cases (ap heap c.in_ok-clone-3.ensures.cases) (ap (giving p) c.in_ok-clone-4.ensures.cases) in
    stepped_as p _ _ _ _ _
    (sym (ap (λ e. eval p (rules p) (expr e) s (giving p c.in_ok-rest.rest.value)) c.deref.ensures ∙ ap (λ (g : Giving). eval p (rules p) (expr c.args.share.now.value) s g) k)) c.step.ensures

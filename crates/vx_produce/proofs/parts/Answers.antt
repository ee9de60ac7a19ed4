use Rattle.std.proofs.Common.{◌≡◌, ap, ◌∙◌}
use Rattle.vx_ast.specs.Syntax.{Assertion}
use Rattle.vx_resolved.specs.Resolved.{assertion}
use Rattle.vx_heap.specs.Views.{held_term}
use Rattle.vx_resolved.specs.Settled.{settled}
use Rattle.vx_rules.specs.States.{State}
use Rattle.vx_rules.specs.Members.{rules}
use Rattle.vx_rules.specs.Rules.{Going, produce, left_part, right_part}
use Rattle.vx_states.specs.SymStates.{optional_term}
use Rattle.vx_stack.specs.Stack.{going}
use Rattle.vx_stack.proofs.Steps.{produces}
use Rattle.vx_produce.proofs.parts.Goals as goal

pub returns : goal.returns
returns c =
    let p = settled c.args.program.now in
    let scale = held_term c.args.x.now.scale in
    let snapshot = optional_term c.args.x.now.snapshot in
    let left : Assertion = assertion c.args.left.now.value in
    let right : Assertion = assertion c.args.right.now.value in
    let on : Going = going p c.args.next.now.value in
    let second : Going = λ (s : State). produce p (rules p) right scale (right_part snapshot) s on in
    let rest : going p c.in_ok-rest.rest.value ≡ second =
    ap (going p) c.in_ok-rest.ensures.ok
    ∙ produces p (assertion c.in_ok-clone.field-0.value) right c.in_ok-later.later.value scale (right_part snapshot) (going p c.in_ok-clone-2.field-0.value) on
    (ap assertion c.in_ok-clone.ensures.cases) c.in_ok-later.ensures.scale c.in_ok-later.ensures.snapshot (ap (going p) c.in_ok-clone-2.ensures.cases) in
    produces p (assertion c.in_ok-clone-3.field-0.value) left c.in_ok-first.first.value scale (left_part snapshot) (going p c.in_ok-rest.rest.value) second
    (ap assertion c.in_ok-clone-3.ensures.cases) c.in_ok-first.ensures.scale c.in_ok-first.ensures.snapshot rest

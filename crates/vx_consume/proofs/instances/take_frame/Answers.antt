use Rattle.std.proofs.Common.{◌≡◌, string_bytes, refl, ap, ◌∙◌}
use Rattle.vx_heap.specs.Views.{heap, held_term}
use Rattle.vx_resolved.specs.Settled.{settled}
use Rattle.vx_rules.specs.Codes.{code}
use Rattle.vx_rules.specs.Rules.{Giving, Going}
use Rattle.vx_rules.specs.Trees.{Step}
use Rattle.vx_stack.specs.declared.frame.Hole.{Hole}
use Rattle.vx_stack.specs.declared.waiting.Instance.{Instance}
use Rattle.vx_stack.specs.Stack.{giving, going, take_instance}
use Rattle.vx_stack.specs.Values.{values}
use Rattle.vx_consume.proofs.Trees.{takes_held}
use Rattle.vx_consume.proofs.instances.take_frame.Goals as goal

pub returns : goal.returns
returns c =
    let p = settled c.args.program.now in
    let l : Instance = c.args.instance in
    let on : Giving = λ v s. Step (giving p c.args.hole.now.value v s) in
    let k : giving p c.in_ok-after.after.value ≡ on = ap (giving p) c.in_ok-after.ensures.ok ∙ ap {B = Giving} (λ (h : Hole) v s. Step (giving p h v s)) c.in_ok-clone.ensures.cases in
    ap (going p) c.in_ok-new.ensures.ok
    ∙ ap {B = Going} (λ (y : Instance) s. take_instance p y.place (string_bytes y.predicate.value) (values y.arguments.value) (held_term y.amount) (code c.args.code) (heap c.in_ok-clone-2.field-0.value) s (giving p c.in_ok-after.after.value)) c.in_ok-instance.ensures.ok
    ∙ takes_held p l.place (string_bytes l.predicate.value) (string_bytes l.predicate.value) (values l.arguments.value) (values l.arguments.value) (held_term l.amount) (held_term l.amount) (code c.args.code)
    (heap c.in_ok-clone-2.field-0.value) (heap c.args.heap.now.value) (giving p c.in_ok-after.after.value) on refl refl refl (ap heap c.in_ok-clone-2.ensures.cases) k

use Rattle.std.proofs.Common.{string_bytes, refl, ap, ◌∙◌}
use Rattle.vx_heap.specs.Views.{heap, held_term}
use Rattle.vx_resolved.specs.Settled.{settled}
use Rattle.vx_rules.specs.Codes.{code}
use Rattle.vx_rules.specs.Rules.{Giving, Going}
use Rattle.vx_stack.specs.declared.waiting.Location.{Location}
use Rattle.vx_stack.specs.Stack.{context, giving, going, take_location, wrapped}
use Rattle.vx_consume.proofs.Trees.{takes}
use Rattle.vx_consume.proofs.locations.take_frame.Goals as goal

pub returns : goal.returns
returns c =
    let p = settled c.args.program.now in
    let l : Location = c.args.location in
    let on : Giving = wrapped p (string_bytes l.field.value) (context c.args.codes) (giving p c.args.hole.now.value) in
    ap (going p) c.in_ok-new.ensures.ok
    ∙ ap {B = Going} (λ (y : Location) s. take_location p y.place (string_bytes y.field.value) (held_term y.receiver) (held_term y.amount) (code c.args.codes.permission) (heap c.in_ok-clone.field-0.value) s (giving p c.in_ok-after.after.value)) c.in_ok-location.ensures.ok
    ∙ takes p l.place (string_bytes l.field.value) (string_bytes l.field.value) (held_term l.receiver) (held_term l.receiver) (held_term l.amount) (held_term l.amount) (code c.args.codes.permission)
    (heap c.in_ok-clone.field-0.value) (heap c.args.heap.now.value) (giving p c.in_ok-after.after.value) on refl refl refl (ap heap c.in_ok-clone.ensures.cases) (c.in_ok-after.ensures p)

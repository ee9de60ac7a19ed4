use Rattle.std.proofs.Common.{sym, ap, ◌∙◌}
use Rattle.vx_states.specs.Entering.{back_to}
use Rattle.vx_stack.specs.declared.frame.Next.{Next}
use Rattle.vx_stack.specs.Stack.{going}
use Rattle.vx_produce.proofs.instances.back_in.Goals as goal

pub returns : goal.returns
returns c = λ p w.
    sym (ap (going p c.args.next.now.value) (sym (c.in_ok-caller.ensures w)) ∙ ap (λ (k : Next). going p k (back_to c.in_ok-caller.caller w)) (sym c.in_ok-clone.ensures.cases)
    ∙ ap (λ k. going p c.in_ok-clone.field-0.value (back_to k w)) (sym c.in_ok-caller-2.ensures.ok) ∙ ap (λ (k : Next). going p k w) (sym c.in_ok-new.ensures.ok))

use Rattle.std.proofs.Common.{◌≡◌, string_bytes, true, ap, ◌∙◌}
use Rattle.vx_resolved.specs.Resolved.{assertion}
use Rattle.vx_resolved.specs.Settled.{settled}
use Rattle.vx_heap.specs.Views.{held_term}
use Rattle.vx_terms.specs.Views.{term}
use Rattle.vx_rules.specs.Trees.{FoldCode, Step}
use Rattle.vx_rules.specs.Rules.{Context, Giving}
use Rattle.vx_states.specs.Entering.{back_to}
use Rattle.vx_stack.specs.declared.frame.Next.{Next}
use Rattle.vx_stack.specs.declared.waiting.Instance.{Instance}
use Rattle.vx_stack.specs.Stack.{giving, going, with_instance}
use Rattle.vx_stack.specs.Values.{values}
use Rattle.vx_stack.proofs.Steps.{consumes}
use Rattle.vx_members.proofs.folds.taking_body.Goals as goal

pub returns : goal.returns
returns c =
    let p = settled c.args.program.now in
    let x : Instance = c.args.instance.now.value in
    let caller = c.args.caller.value in
    let n : Next = c.args.next.now.value in
    let folding : Context = record { pure = FoldCode; permission = FoldCode; builds = true } in
    let on : Giving = λ t w. Step (going p n (with_instance (string_bytes x.predicate.value) (values x.arguments.value) (held_term x.amount) t (back_to caller w))) in
    let k : giving p c.in_ok-hole.hole.value ≡ on =
    ap (giving p) c.in_ok-hole.ensures.ok
    ∙ ap {B = Giving} (λ (y : Instance) t w. Step (going p c.in_ok-clone-2.field-0.value (with_instance (string_bytes y.predicate.value) (values y.arguments.value) (held_term y.amount) t (back_to caller w)))) c.in_ok-clone.ensures.cases
    ∙ ap {B = Giving} (λ (y : Next) t w. Step (going p y (with_instance (string_bytes x.predicate.value) (values x.arguments.value) (held_term x.amount) t (back_to caller w)))) c.in_ok-clone-2.ensures.cases in
    consumes p (assertion c.in_ok-clone-3.field-0.value) (assertion c.args.body.now.value) folding (held_term c.in_ok-amount.amount) (held_term x.amount) (giving p c.in_ok-hole.hole.value) on
    (ap assertion c.in_ok-clone-3.ensures.cases) (ap term c.in_ok-amount.ensures.cases ∙ ap (λ (y : Instance). held_term y.amount) c.deref.ensures) k

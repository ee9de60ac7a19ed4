use Rattle.std.proofs.Common.{ap, ◌∙◌}
use Rattle.vx_rules.specs.Rules.{Giving}
use Rattle.vx_stack.specs.declared.frame.Hole.{Hole}
use Rattle.vx_stack.specs.declared.waiting.Consumed.TheVariants as waits
use Rattle.vx_stack.specs.Stack.{consumed, giving}
use Rattle.vx_consume.proofs.waits.hole_of_right.Goals as goal

pub returns : goal.returns
returns c = λ p.
    ap (giving p) c.in_ok-new.ensures.ok
    ∙ ap {B = Giving} (λ (h : Hole). consumed p (waits.With c.args.left c.args.codes) (giving p h)) c.in_ok-clone.ensures.cases

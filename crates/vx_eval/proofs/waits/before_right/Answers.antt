use Rattle.std.proofs.Common.{◌≡◌, ◌∙◌, true, false, ap, sym}
use Rattle.vx_resolved.specs.Resolved.{connective, expr}
use Rattle.vx_rules.specs.Members.{rules}
use Rattle.vx_rules.specs.Rules.{Giving, connected, eval, is_total, short}
use Rattle.vx_rules.specs.Trees.{Step}
use Rattle.vx_eval.proofs.Sides.{first_way, second_way}
use Rattle.vx_eval.proofs.waits.before_right.Goals as goal

pub returns-then-is_total : goal.returns-then-is_total
returns-then-is_total c = λ p on.
    let b = c.args.b.now.value in
    let t : is_total (expr b) ≡ true = ap (λ x. is_total (expr x)) (sym c.deref.ensures) ∙ sym c.is_total.ensures ∙ c.if-is_total.true in
    first_way (is_total (expr b)) _ _ _ t
    (ap {B = Giving} (λ y t s. Step (eval p (rules p) (expr y) s (λ u s1. Step (on (connected (connective c.args.op) t u) s1)))) c.in_ok-clone.ensures.cases)

pub returns : goal.returns
returns c = λ p on.
    let b = c.args.b.now.value in
    let t : is_total (expr b) ≡ false = ap (λ x. is_total (expr x)) (sym c.deref.ensures) ∙ sym c.is_total.ensures ∙ c.if-is_total.false in
    second_way (is_total (expr b)) _ _ _ t
    (ap {B = Giving} (λ y t s. short (connective c.args.op) t s (λ s1. eval p (rules p) (expr y) s1 on) on) c.in_ok-clone-2.ensures.cases)

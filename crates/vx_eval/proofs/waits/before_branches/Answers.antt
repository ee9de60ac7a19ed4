use Rattle.std.proofs.Common.{◌≡◌, ◌∙◌, ◌&&◌, true, false, ap, sym}
use Rattle.vx_ast.specs.Syntax.{Program}
use Rattle.vx_resolved.specs.declared.Expr as expr'
use Rattle.vx_resolved.specs.Resolved.{expr}
use Rattle.vx_rules.specs.Members.{rules}
use Rattle.vx_rules.specs.Rules.{Giving, eval, fork, is_total}
use Rattle.vx_rules.specs.Trees.{Step}
use Rattle.vx_terms.specs.Build.{ite}
use Rattle.vx_eval.proofs.Sides.{first_way, second_way}
use Rattle.vx_eval.proofs.waits.before_branches.Goals as goal

abbrev both : Program → Giving → expr'.Expr → expr'.Expr → Giving
both p on a b = λ t s. Step (eval p (rules p) (expr a) s (λ u s1. Step (eval p (rules p) (expr b) s1 (λ v s2. Step (on (ite t u v) s2)))))

abbrev apart : Program → Giving → expr'.Expr → expr'.Expr → Giving
apart p on a b = λ t s. fork t s (λ s1. eval p (rules p) (expr a) s1 on) (λ s1. eval p (rules p) (expr b) s1 on)

pub returns-then-are_total : goal.returns-then-are_total
returns-then-are_total c = λ p on.
    let a = c.args.a.now.value in
    let b = c.args.b.now.value in
    let t : (is_total (expr a) && is_total (expr b)) ≡ true =
    ap (λ x. is_total (expr x) && is_total (expr b)) (sym c.deref.ensures) ∙ ap (λ x. is_total (expr c.deref.result.now) && is_total (expr x)) (sym c.deref-2.ensures) ∙ sym c.are_total.ensures ∙ c.if-are_total.true in
    first_way (is_total (expr a) && is_total (expr b)) _ _ _ t
    (ap {B = Giving} (λ y. both p on y c.in_ok-clone-2.field-0.value) c.in_ok-clone.ensures.cases ∙ ap {B = Giving} (λ y. both p on a y) c.in_ok-clone-2.ensures.cases)

pub returns : goal.returns
returns c = λ p on.
    let a = c.args.a.now.value in
    let b = c.args.b.now.value in
    let t : (is_total (expr a) && is_total (expr b)) ≡ false =
    ap (λ x. is_total (expr x) && is_total (expr b)) (sym c.deref.ensures) ∙ ap (λ x. is_total (expr c.deref.result.now) && is_total (expr x)) (sym c.deref-2.ensures) ∙ sym c.are_total.ensures ∙ c.if-are_total.false in
    second_way (is_total (expr a) && is_total (expr b)) _ _ _ t
    (ap {B = Giving} (λ y. apart p on y c.in_ok-clone-4.field-0.value) c.in_ok-clone-3.ensures.cases ∙ ap {B = Giving} (λ y. apart p on a y) c.in_ok-clone-4.ensures.cases)

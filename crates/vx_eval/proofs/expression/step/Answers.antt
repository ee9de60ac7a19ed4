use Rattle.std.proofs.Common.{refl, ap, sym, ◌&&◌}
use Rattle.vx_resolved.specs.Resolved.{expr}
use Rattle.vx_resolved.specs.Settled.{settled}
use Rattle.vx_rules.specs.Members.{rules}
use Rattle.vx_rules.specs.Rules.{Giving, eval, is_total}
use Rattle.vx_rules.specs.Trees.{Step}
use Rattle.vx_states.specs.SymStates.{state}
use Rattle.vx_stack.specs.Stack.{giving, operand}
use Rattle.vx_stack.proofs.Steps.{stepped_as}
use Rattle.vx_eval.proofs.Sides.{either_way}
use Rattle.vx_eval.proofs.expression.step.Goals as goal

pub returns-in-Number : goal.returns-in-Number
returns-in-Number c = stepped_as (settled c.args.program.now) _ _ _ _ _ (rw c.in-Number.is refl) (c.give_made.ensures _ c.numeral.ensures)

pub returns-in-Truth : goal.returns-in-Truth
returns-in-Truth c = stepped_as (settled c.args.program.now) _ _ _ _ _ (rw c.in-Truth.is refl) (c.give_made-in-Truth.ensures _ c.boolean.ensures)

pub returns-in-Null : goal.returns-in-Null
returns-in-Null c = stepped_as (settled c.args.program.now) _ _ _ _ _ (rw c.in-Null.is refl) (c.give_made-in-Null.ensures _ c.null.ensures)

pub returns-in-Part : goal.returns-in-Part
returns-in-Part c = stepped_as (settled c.args.program.now) _ _ _ _ _ (rw c.in-Part.is refl) (c.give_made-in-Part.ensures _ c.part.ensures)

pub returns-in-Variable : goal.returns-in-Variable
returns-in-Variable c = stepped_as (settled c.args.program.now) _ _ _ _ _ (rw c.in-Variable.is refl) (c.give_made-in-Variable.ensures _ c.value_of-value.ensures)

pub returns-in-Not : goal.returns-in-Not
returns-in-Not c = stepped_as (settled c.args.program.now) _ _ _ _ _ (rw c.in-Not.is refl) c.eval.ensures

pub returns-in_ok-clone-in-Operate : goal.returns-in_ok-clone-in-Operate
returns-in_ok-clone-in-Operate c = stepped_as (settled c.args.program.now) _ _ _ _ _ (rw (c.in-Operate.is, c.in_ok-clone-in-Operate.ensures.cases) refl) c.eval-in-Operate.ensures

pub returns-in_ok-operand-in-Connect : goal.returns-in_ok-operand-in-Connect
returns-in_ok-operand-in-Connect c =
    let p = settled c.args.program.now in
    let s = state c.args.state in
    let x = c.in-Connect in
    stepped_as p _ _ _ _ _
    (rw x.is
    (either_way (is_total (expr x.b.value)) (operand p c.in_ok-operand-in-Connect.operand (giving p c.args.hole.value)) _ _ (λ (y : Giving). Step (eval p (rules p) (expr x.a.value) s y))
    (c.in_ok-operand-in-Connect.ensures p (giving p c.args.hole.value)))) c.eval-in-Connect.ensures

pub returns-in_ok-operand-in-Choose : goal.returns-in_ok-operand-in-Choose
returns-in_ok-operand-in-Choose c =
    let p = settled c.args.program.now in
    let s = state c.args.state in
    let x = c.in-Choose in
    stepped_as p _ _ _ _ _
    (rw x.is
    (either_way (is_total (expr x.a.value) && is_total (expr x.b.value)) (operand p c.in_ok-operand-in-Choose.operand (giving p c.args.hole.value)) _ _ (λ (y : Giving). Step (eval p (rules p) (expr x.c.value) s y))
    (c.in_ok-operand-in-Choose.ensures p (giving p c.args.hole.value)))) c.eval-in-Choose.ensures

pub returns-in_ok-clone-in-Divide : goal.returns-in_ok-clone-in-Divide
returns-in_ok-clone-in-Divide c = stepped_as (settled c.args.program.now) _ _ _ _ _ (rw (c.in-Divide.is, c.in_ok-clone-in-Divide.ensures.cases) refl) c.eval-in-Divide.ensures

pub returns-in_ok-clone-in-Read : goal.returns-in_ok-clone-in-Read
returns-in_ok-clone-in-Read c = stepped_as (settled c.args.program.now) _ _ _ _ _ (rw (c.in-Read.is, c.in_ok-clone-in-Read.ensures.cases) refl) c.eval-in-Read.ensures

pub returns-in_ok-old-in-Old : goal.returns-in_ok-old-in-Old
returns-in_ok-old-in-Old c =
    stepped_as (settled c.args.program.now) _ _ _ _ _
    (rw (c.in-Old.is, ← c.exchange_heap-heap.ensures.before, c.exchange_heap-heap.ensures.after, c.in_ok-old-in-Old.ensures.cases) refl) c.eval-in-Old.ensures

pub returns-in_ok-clone-in-Apply : goal.returns-in_ok-clone-in-Apply
returns-in_ok-clone-in-Apply c = stepped_as (settled c.args.program.now) _ _ _ _ _ (rw (c.in-Apply.is, c.in_ok-clone-in-Apply.ensures.cases) refl) c.evals.ensures

pub returns-in_ok-operand-in-Unfolding : goal.returns-in_ok-operand-in-Unfolding
returns-in_ok-operand-in-Unfolding c =
    let p = settled c.args.program.now in
    let s = state c.args.state in
    let x = c.in-Unfolding in
    stepped_as p _ _ _ _ _
    (rw x.is (ap (λ (y : Giving). Step (eval p (rules p) (expr x.share.value) s y)) (sym (c.in_ok-operand-in-Unfolding.ensures p (giving p c.args.hole.value)))))
    c.eval-in-Unfolding.ensures

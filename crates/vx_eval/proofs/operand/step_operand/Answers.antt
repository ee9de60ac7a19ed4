use Rattle.std.proofs.Common.{refl, ap, sym}
use Rattle.vx_resolved.specs.Resolved.{expr}
use Rattle.vx_resolved.specs.Settled.{settled}
use Rattle.vx_rules.specs.Members.{rules}
use Rattle.vx_rules.specs.Rules.{Giving, eval}
use Rattle.vx_rules.specs.Trees.{Step}
use Rattle.vx_states.specs.SymStates.{state}
use Rattle.vx_stack.specs.Stack.{giving}
use Rattle.vx_stack.proofs.Steps.{stepped_as}
use Rattle.vx_eval.proofs.operand.step_operand.Goals as goal

pub returns-in-Negate : goal.returns-in-Negate
returns-in-Negate c = stepped_as (settled c.args.program.now) _ _ _ _ _ (rw c.in-Negate.is refl) (c.give_made.ensures _ c.not.ensures)

pub returns-in-OperateRight : goal.returns-in-OperateRight
returns-in-OperateRight c = stepped_as (settled c.args.program.now) _ _ _ _ _ (rw c.in-OperateRight.is refl) c.step_part.ensures

pub returns-in-OperateWith : goal.returns-in-OperateWith
returns-in-OperateWith c = stepped_as (settled c.args.program.now) _ _ _ _ _ (rw c.in-OperateWith.is refl) (c.give_made-in-OperateWith.ensures _ c.operated-both.ensures)

pub returns-in-DivideRight : goal.returns-in-DivideRight
returns-in-DivideRight c = stepped_as (settled c.args.program.now) _ _ _ _ _ (rw c.in-DivideRight.is refl) c.step_part-in-DivideRight.ensures

pub returns-in-ConnectRight : goal.returns-in-ConnectRight
returns-in-ConnectRight c = stepped_as (settled c.args.program.now) _ _ _ _ _ (rw c.in-ConnectRight.is refl) c.step_part-in-ConnectRight.ensures

pub returns-in-ConnectWith : goal.returns-in-ConnectWith
returns-in-ConnectWith c = stepped_as (settled c.args.program.now) _ _ _ _ _ (rw c.in-ConnectWith.is refl) (c.give_made-in-ConnectWith.ensures _ c.connected-both.ensures)

pub returns-in_ok-with-in-ChooseThen : goal.returns-in_ok-with-in-ChooseThen
returns-in_ok-with-in-ChooseThen c =
    let p = settled c.args.program.now in
    let s = state c.args.state in
    let x = c.in-ChooseThen in
    stepped_as p _ _ _ _ _
    (rw x.is (ap (λ (y : Giving). Step (eval p (rules p) (expr x.a.value) s y)) (sym (c.in_ok-with-in-ChooseThen.ensures p (giving p c.args.hole.now.value)))))
    c.step_part-in-ChooseThen.ensures

pub returns-in_ok-with-in-ChooseElse : goal.returns-in_ok-with-in-ChooseElse
returns-in_ok-with-in-ChooseElse c =
    let p = settled c.args.program.now in
    let s = state c.args.state in
    let x = c.in-ChooseElse in
    stepped_as p _ _ _ _ _
    (rw x.is (ap (λ (y : Giving). Step (eval p (rules p) (expr x.b.value) s y)) (sym (c.in_ok-with-in-ChooseElse.ensures p (giving p c.args.hole.now.value)))))
    c.step_part-in-ChooseElse.ensures

pub returns-in-ChooseWith : goal.returns-in-ChooseWith
returns-in-ChooseWith c = stepped_as (settled c.args.program.now) _ _ _ _ _ (rw c.in-ChooseWith.is refl) (c.give_made-in-ChooseWith.ensures _ c.ite-choice.ensures)

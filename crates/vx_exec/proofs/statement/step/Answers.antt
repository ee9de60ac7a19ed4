use Rattle.std.proofs.Common.{◌≡◌, ℕ, length, map, refl, sym, ap, ◌∙◌}
use Rattle.std.proofs.lemmas.List.{length-map}
use Rattle.vx_ast.specs.Syntax.{While}
use Rattle.vx_resolved.specs.Resolved.{assertions, block, expr, stmt}
use Rattle.vx_resolved.specs.Settled.{settled}
use Rattle.vx_rules.specs.Members.{exec, rules}
use Rattle.vx_rules.specs.Rules.{Giving, Going}
use Rattle.vx_rules.specs.States.{State}
use Rattle.vx_states.specs.SymStates.{binding, state}
use Rattle.vx_stack.specs.declared.waiting.Executed.TheVariants as waits
use Rattle.vx_stack.specs.Stack.{executed, going}
use Rattle.vx_stack.proofs.Steps.{stepped_as}
use Rattle.vx_exec.proofs.Forms.{gives_as, stmt_is}
use Rattle.vx_exec.proofs.statement.step.Goals as goal

pub returns-in-Declare : goal.returns-in-Declare
returns-in-Declare c = stmt_is (settled c.args.program.now) _ _ _ _ _ _ _ c.in-Declare.is c.step_declare.ensures

pub returns-in-Assign : goal.returns-in-Assign
returns-in-Assign c = let p = settled c.args.program.now in stmt_is p _ _ _ _ _ _ _ c.in-Assign.is (c.eval_made.ensures _ (c.hole_of_assign.ensures p))

pub returns-in-Write : goal.returns-in-Write
returns-in-Write c = let p = settled c.args.program.now in stmt_is p _ _ _ _ _ _ _ c.in-Write.is (c.eval_made-in-Write.ensures _ (c.hole_of_write-hole.ensures p))

pub returns-in-Call : goal.returns-in-Call
returns-in-Call c = let p = settled c.args.program.now in stmt_is p _ _ _ _ _ _ _ c.in-Call.is (c.evals_made.ensures _ (c.row_of_call-row.ensures p))

pub returns-in-Inhale : goal.returns-in-Inhale
returns-in-Inhale c = let p = settled c.args.program.now in stmt_is p _ _ _ _ _ _ _ c.in-Inhale.is (c.next_made.ensures _ (c.inhaling.ensures p))

pub returns-in-Exhale : goal.returns-in-Exhale
returns-in-Exhale c = let p = settled c.args.program.now in stmt_is p _ _ _ _ _ _ _ c.in-Exhale.is (c.next_made-in-Exhale.ensures _ c.consuming-consume.ensures)

pub returns-in-Assert : goal.returns-in-Assert
returns-in-Assert c = let p = settled c.args.program.now in stmt_is p _ _ _ _ _ _ _ c.in-Assert.is (c.next_made-in-Assert.ensures _ c.asserting-consume.ensures)

pub returns-in-Assume : goal.returns-in-Assume
returns-in-Assume c = let p = settled c.args.program.now in stmt_is p _ _ _ _ _ _ _ c.in-Assume.is (c.eval_made-in-Assume.ensures _ (c.hole_of.ensures p))

pub returns-in-Fold : goal.returns-in-Fold
returns-in-Fold c = let p = settled c.args.program.now in stmt_is p _ _ _ _ _ _ _ c.in-Fold.is (c.eval_made-in-Fold.ensures _ (c.hole_of_fold-hole.ensures p))

pub returns-in-Unfold : goal.returns-in-Unfold
returns-in-Unfold c = let p = settled c.args.program.now in stmt_is p _ _ _ _ _ _ _ c.in-Unfold.is (c.eval_made-in-Unfold.ensures _ (c.hole_of_unfold-hole.ensures p))

pub returns-in-New : goal.returns-in-New
returns-in-New c = stepped_as (settled c.args.program.now) _ _ _ _ _ (rw (c.in-New.is, c.deref-in-New.ensures.value, c.deref.ensures) refl) c.step_new.ensures

pub returns-in-While : goal.returns-in-While
returns-in-While c =
    let p = settled c.args.program.now in
    let s : State = state c.args.state in
    let on : Going = going p c.args.next.now.value in
    let it = c.in-While in
    stepped_as p _ _ _ _ _
    (ap (λ y. exec p (rules p) (stmt y) s on) it.is ∙ sym (ap (λ l. exec p (rules p) (While it.place (expr it.e.value) (assertions l) (block it.body.value)) s on) c.deref-in-While.ensures.value)) c.step_while.ensures

pub returns-in-If : goal.returns-in-If
returns-in-If c =
    let p = settled c.args.program.now in
    let on : Going = going p c.args.next.now.value in
    let it = c.in-If in
    let k : c.len.result ≡ length (map binding c.args.state.store.items) = c.len.ensures ∙ c.args.state.store.ok.0 ∙ sym (length-map c.args.state.store.items binding) in
    stmt_is p _ _ _ _ _ _ _ it.is (c.eval_made-in-If.ensures _ (gives_as p _ _ _ (ap {B = Giving} (λ (n : ℕ). executed p (waits.If it.a it.b n) on) k) (c.hole_of_if-hole.ensures p)))

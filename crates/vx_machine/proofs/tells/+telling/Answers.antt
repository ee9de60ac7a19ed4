use Rattle.std.proofs.Common.{rules as all_rules, ◌≡◌, ap, sym, subst, ◌∙◌}
use Rattle.std.proofs.lemmas.Result.{IfOk-weaker}
use Rattle.vx_heap.specs.Views.{held_term, terms_of}
use Rattle.vx_ast.specs.Syntax.{Expr, conjoined, result_name}
use Rattle.vx_machine.specs.Told.{said_by, value_told, Leaves}
use Rattle.vx_resolved.specs.declared.Function as function'
use Rattle.vx_resolved.specs.Resolved.{expr, function}
use Rattle.vx_resolved.specs.Settled.{settled}
use Rattle.vx_rules.specs.Members.{rules}
use Rattle.vx_rules.specs.Rules.{gathered, quietly, sides_of, with_body, with_equations, with_promise}
use Rattle.vx_rules.specs.States.{State, bind, declare, with_facts}
use Rattle.vx_rules.specs.Trees.{Step}
use Rattle.vx_stack.specs.declared.waiting.Application.{Application}
use Rattle.vx_stack.specs.declared.waiting.Applied.{Applied}
use Rattle.vx_stack.specs.Values.{values}
use Rattle.vx_stack.proofs.Steps.{stepped_as}
use Rattle.vx_terms.specs.Build.{equals}
use Rattle.vx_terms.specs.Terms.{Term}
use Rattle.vx_terms.specs.Views.{term}
use Rattle.vx_machine.proofs.Quiet.{body_level}
use Rattle.vx_stack.specs.Stack.{frame_tree, giving, side_tree, told, Stepped}
use Rattle.vx_states.specs.SymStates.{state}
use Rattle.vx_machine.proofs.Gathers.{over_leaves, stepped_leaves, turn_fewer, turn_gathers}
use Rattle.vx_machine.proofs.tells.+telling.Goals as goal

pub gather-loop-side-smaller : goal.gather-loop-side-smaller
gather-loop-side-smaller t c =
    turn_fewer (settled c.args.program.now) c.loop-side.conts.sides.items c.pop.new.self.items c.step_quietly.new.conts.sides.items c.in-Some.side c.in_ok-moved.moved c.in-Some.ensures.items c.in_ok-moved.ensures

pub gather-loop-side-preserved : goal.gather-loop-side-preserved
gather-loop-side-preserved t c =
    turn_gathers (settled c.args.program.now) (state c.args.before.now) (said_by c.args.said.now) (terms_of c.loop-side.facts.items) (terms_of c.note.new.facts.items)
    c.loop-side.conts.sides.items c.pop.new.self.items c.step_quietly.new.conts.sides.items c.in-Some.side c.in_ok-moved.moved c.in-Some.ensures.items c.in_ok-moved.ensures c.in_ok-note.ensures
    ∙ c.loop-side.invariant

pub step_quietly-step-requires : goal.step_quietly-step-requires
step_quietly-step-requires t c = let is = rw c.in-Plain.is at c.in_ok-come_back.ensures (settled c.args.program.now) in is.1

pub step_quietly-returns-in-Over : goal.step_quietly-returns-in-Over
step_quietly-returns-in-Over t c =
    let p = settled c.args.program.now in
    let is = rw c.in-Over.is at c.in_ok-come_back.ensures p in
    over_leaves p (side_tree p c.args.side) c.args.conts.now.sides.items is.0 is.1

pub step_quietly-returns-in-Telling : goal.step_quietly-returns-in-Telling
step_quietly-returns-in-Telling t c =
    let p = settled c.args.program.now in
    let old = c.args.conts.now.sides.items in
    let new = c.tell.new.conts.sides.items in
    let is = rw c.in-Telling.is at c.in_ok-come_back.ensures p in
    IfOk-weaker c.tell.result (λ m. Stepped p (told p c.in-Telling.x.value (giving p c.in-Telling.hole.value) (state c.in-Telling.state)) old m new) (λ m. Leaves p (side_tree p c.args.side) old m new)
    (λ m h. stepped_leaves p (side_tree p c.args.side) old new m (subst (λ u. Stepped p u old m new) (sym is) h)) c.tell.ensures

pub step_quietly-returns-in-Plain : goal.step_quietly-returns-in-Plain
step_quietly-returns-in-Plain t c =
    let p = settled c.args.program.now in
    let old = c.args.conts.now.sides.items in
    let new = c.step.new.conts.sides.items in
    let is = rw c.in-Plain.is at c.in_ok-come_back.ensures p in
    IfOk-weaker c.step.result (λ m. Stepped p (frame_tree p c.in-Plain.frame (state c.in-Plain.state)) old m new) (λ m. Leaves p (side_tree p c.args.side) old m new)
    (λ m h. stepped_leaves p (side_tree p c.args.side) old new m (subst (λ u. Stepped p u old m new) (sym is.0) h)) c.step.ensures

pub tell-returns : goal.tell-returns
tell-returns t c =
    let p = settled c.args.program.now in
    let s : State = state c.args.state in
    let x : Applied = c.args.x.now.value in
    let v = held_term c.in_ok-value.value in
    let hole = c.args.hole.now.value in
    let told_by = λ (y : Applied) (u : Term).
    Step (giving p hole u (with_equations p (rules p) (function y.application.value.function.value) (values y.application.value.arguments.value) (held_term y.snapshot) u s)) in
    stepped_as p _ _ _ _ _
    (sym (ap (λ z. Step (giving p hole v z)) c.in_ok-state.ensures
    ∙ ap (λ (y : Applied). told_by y v) c.deref-2.ensures
    ∙ ap (λ (u : Term). told_by x u) (c.in_ok-value.ensures ∙ ap (value_told p) c.deref.ensures))) c.give.ensures

pub with_equations-with_promise-requires : goal.with_equations-with_promise-requires
with_equations-with_promise-requires t c =
    let x : Applied = c.args.x.now in
    let same : c.in_ok-state.state.level ≡ c.args.state.level =
    ap (λ (z : State). z.level) c.in_ok-state.ensures
    ∙ body_level (settled c.args.program.now) (function x.application.value.function.value) (values x.application.value.arguments.value) (held_term x.snapshot) (held_term c.args.value.now) (state c.args.state) in
    search all_rules

pub with_body-returns : goal.with_body-returns
with_body-returns t c =
    let p = settled c.args.program.now in
    let s : State = state c.args.state in
    let x : Applied = c.args.x.now in
    let g = function x.application.value.function.value in
    let ts = values x.application.value.arguments.value in
    let z : State = state c.in_ok-start.start in
    let z1 : State = quietly p (rules p) (bind g.parameters ts) s in
    let told_by = λ (y : State) (u : Term) (e : Expr). with_facts (gathered y (λ w. equals u w) (sides_of p (rules p) g e (held_term x.snapshot) y)) s in
    let u : Term = held_term c.in_ok-clone.field-0 in
    let body : c.deref-2.result.now.body.value ≡ x.application.value.function.value.body.value = ap (λ (y : function'.Function). y.body.value) (c.deref-2.ensures ∙ ap (λ (y : Application). y.function.value) c.deref.ensures) in
    let same : told_by z u (expr c.deref-2.result.now.body.value) ≡ with_body p (rules p) g ts (held_term x.snapshot) (held_term c.args.value.now) s =
    ap (λ (y : State). told_by y u (expr c.deref-2.result.now.body.value)) (c.in_ok-start.ensures p (rules p))
    ∙ ap (λ y. told_by z1 (term y) (expr c.deref-2.result.now.body.value)) c.in_ok-clone.ensures.cases
    ∙ ap (λ y. told_by z1 (held_term c.args.value.now) (expr y)) body in
    IfOk-weaker c.with_sides.result (λ r. state r ≡ told_by z u (expr c.deref-2.result.now.body.value)) (λ r. state r ≡ with_body p (rules p) g ts (held_term x.snapshot) (held_term c.args.value.now) s)
    (λ r h. h ∙ same) c.with_sides.ensures

pub with_promise-returns : goal.with_promise-returns
with_promise-returns t c =
    let p = settled c.args.program.now in
    let s : State = state c.args.state in
    let x : Applied = c.args.x.now in
    let g = function x.application.value.function.value in
    let ts = values x.application.value.arguments.value in
    let u : Term = held_term c.args.value.now in
    let z : State = state c.bind_outcome.new.state in
    let quiet : State = quietly p (rules p) (bind g.parameters ts) s in
    let z1 : State = declare result_name u quiet in
    let told_by = λ (y : State) (e : Expr). with_facts (gathered y (λ w. w) (sides_of p (rules p) g e (held_term x.snapshot) y)) s in
    let start : z ≡ z1 =
    c.in_ok-bind_outcome.ensures ∙ ap (λ y. declare result_name (term y) (state c.in_ok-start.start)) c.in_ok-clone.ensures.cases ∙ ap (λ (y : State). declare result_name u y) (c.in_ok-start.ensures p (rules p)) in
    let promise : expr c.in_ok-promise.promise.value ≡ conjoined g.place g.ensures =
    c.in_ok-promise.ensures ∙ ap (λ (y : function'.Function). conjoined (function y).place (function y).ensures) (c.deref-2.ensures ∙ ap (λ (y : Application). y.function.value) c.deref.ensures) in
    let same : told_by z (expr c.in_ok-promise.promise.value) ≡ with_promise p (rules p) g ts (held_term x.snapshot) u s =
    ap (λ (y : State). told_by y (expr c.in_ok-promise.promise.value)) start ∙ ap (λ (e : Expr). told_by z1 e) promise in
    IfOk-weaker c.with_sides.result (λ r. state r ≡ told_by z (expr c.in_ok-promise.promise.value)) (λ r. state r ≡ with_promise p (rules p) g ts (held_term x.snapshot) u s)
    (λ r h. h ∙ same) c.with_sides.ensures

use Rattle.std.proofs.Common.{◌≡◌, string_bytes, refl, ap, sym, ◌∙◌}
use Rattle.vx_ast.specs.Syntax.{Name, Expr}
use Rattle.vx_heap.specs.Views.{heap}
use Rattle.vx_resolved.specs.Resolved.{assertion, expr, exprs}
use Rattle.vx_resolved.specs.Settled.{settled}
use Rattle.vx_rules.specs.States.{Heap, State, with_heap}
use Rattle.vx_rules.specs.Trees.{Step}
use Rattle.vx_rules.specs.Members.{rules}
use Rattle.vx_rules.specs.Rules.{Giving, GivingAll, eval, evals}
use Rattle.vx_states.specs.SymStates.{state}
use Rattle.vx_stack.specs.declared.waiting.Consumption.{Consumption}
use Rattle.vx_stack.specs.Stack.{consuming, giving}
use Rattle.vx_stack.proofs.Steps.{stepped_as}
use Rattle.vx_consume.proofs.Trees.{held, helds, located, locates}
use Rattle.vx_consume.proofs.step.Goals as goal

pub returns-in_ok-clone-in-Pure : goal.returns-in_ok-clone-in-Pure
returns-in_ok-clone-in-Pure c =
    stepped_as (settled c.args.program.now) _ _ _ _ _
    (rw (
      c.in-Pure.is,
      c.place_of.ensures,
      c.deref-in-Pure.ensures,
      ← c.exchange_heap-heap.ensures.before,
      c.exchange_heap-heap.ensures.after,
      c.in_ok-clone-in-Pure.ensures.cases,
      c.deref.ensures,
      c.deref-in-Pure-2.ensures,
    ) refl) c.eval.ensures

pub returns-in_ok-clone-in-Points-4 : goal.returns-in_ok-clone-in-Points-4
returns-in_ok-clone-in-Points-4 c =
    let p = settled c.args.program.now in
    let s : State = state c.args.state in
    let x : Consumption = c.args.x.now.value in
    let it = c.in-Points in
    let on : Giving = giving p c.args.hole.value in
    let f : Name = string_bytes c.in_ok-clone-in-Points-2.field-0.value in
    let share : Expr = expr c.in_ok-clone-in-Points-3.field-0.value in
    let y : Consumption = c.in_ok-clone-in-Points-4.field-0.value in
    let h : Heap = heap c.exchange_heap-heap-in-Points.result.value in
    let start : state c.exchange_heap-heap-in-Points.new.self ≡ with_heap (heap x.start.value) s =
    c.exchange_heap-heap-in-Points.ensures.after
    ∙ ap (λ z. with_heap (heap z) s) (c.in_ok-clone-in-Points.ensures.cases ∙ ap (λ (z : Consumption). z.start.value) c.deref-in-Points.ensures) in
    let k : located p it.place f share y h on ≡ located p it.place (string_bytes it.field.value) (expr it.share.value) x s.heap on =
    locates p it.place f (string_bytes it.field.value) share (expr it.share.value) y x h s.heap on
    (ap string_bytes c.in_ok-clone-in-Points-2.ensures.cases) (ap expr c.in_ok-clone-in-Points-3.ensures.cases) c.in_ok-clone-in-Points-4.ensures.cases c.exchange_heap-heap-in-Points.ensures.before in
    stepped_as p _ _ _ _ _
    (ap (λ a. consuming p (assertion a) x s on) c.in-Points.is
    ∙ sym (ap (λ z. Step (eval p (rules p) (expr it.e.value) z (located p it.place f share y h on))) start
    ∙ ap (λ (g : Giving). Step (eval p (rules p) (expr it.e.value) (with_heap (heap x.start.value) s) g)) k)) c.eval-in-Points.ensures

pub returns-in_ok-both-in-Both : goal.returns-in_ok-both-in-Both
returns-in_ok-both-in-Both c =
    stepped_as (settled c.args.program.now) _ _ _ _ _
    (rw (c.in-Both.is, c.in_ok-both-in-Both.ensures) refl) c.next.ensures

pub returns-in_ok-clone-in-Implied-3 : goal.returns-in_ok-clone-in-Implied-3
returns-in_ok-clone-in-Implied-3 c =
    stepped_as (settled c.args.program.now) _ _ _ _ _
    (rw (
      c.in-Implied.is,
      ← c.exchange_heap-heap-in-Implied.ensures.before,
      c.exchange_heap-heap-in-Implied.ensures.after,
      c.in_ok-clone-in-Implied.ensures.cases,
      c.deref-in-Implied.ensures,
      c.in_ok-clone-in-Implied-2.ensures.cases,
      c.in_ok-clone-in-Implied-3.ensures.cases,
    ) refl) c.eval-in-Implied.ensures

pub returns-in_ok-clone-in-Chosen-4 : goal.returns-in_ok-clone-in-Chosen-4
returns-in_ok-clone-in-Chosen-4 c =
    stepped_as (settled c.args.program.now) _ _ _ _ _
    (rw (
      c.in-Chosen.is,
      ← c.exchange_heap-heap-in-Chosen.ensures.before,
      c.exchange_heap-heap-in-Chosen.ensures.after,
      c.in_ok-clone-in-Chosen.ensures.cases,
      c.deref-in-Chosen.ensures,
      c.in_ok-clone-in-Chosen-2.ensures.cases,
      c.in_ok-clone-in-Chosen-3.ensures.cases,
      c.in_ok-clone-in-Chosen-4.ensures.cases,
    ) refl) c.eval-in-Chosen.ensures

pub returns-in_ok-clone-in-Instance-4 : goal.returns-in_ok-clone-in-Instance-4
returns-in_ok-clone-in-Instance-4 c =
    let p = settled c.args.program.now in
    let s : State = state c.args.state in
    let x : Consumption = c.args.x.now.value in
    let it = c.in-Instance in
    let on : Giving = giving p c.args.hole.value in
    let f : Name = string_bytes c.in_ok-clone-in-Instance-2.field-0.value in
    let share : Expr = expr c.in_ok-clone-in-Instance-3.field-0.value in
    let y : Consumption = c.in_ok-clone-in-Instance-4.field-0.value in
    let h : Heap = heap c.exchange_heap-heap-in-Instance.result.value in
    let start : state c.exchange_heap-heap-in-Instance.new.self ≡ with_heap (heap x.start.value) s =
    c.exchange_heap-heap-in-Instance.ensures.after
    ∙ ap (λ z. with_heap (heap z) s) (c.in_ok-clone-in-Instance.ensures.cases ∙ ap (λ (z : Consumption). z.start.value) c.deref-in-Instance.ensures) in
    let k : held p it.place f share y h on ≡ held p it.place (string_bytes it.predicate.value) (expr it.share.value) x s.heap on =
    helds p it.place f (string_bytes it.predicate.value) share (expr it.share.value) y x h s.heap on
    (ap string_bytes c.in_ok-clone-in-Instance-2.ensures.cases) (ap expr c.in_ok-clone-in-Instance-3.ensures.cases) c.in_ok-clone-in-Instance-4.ensures.cases c.exchange_heap-heap-in-Instance.ensures.before in
    stepped_as p _ _ _ _ _
    (ap (λ a. consuming p (assertion a) x s on) it.is
    ∙ sym (ap (λ z. Step (evals p (rules p) (exprs it.arguments.value) z (held p it.place f share y h on))) start
    ∙ ap (λ (g : GivingAll). Step (evals p (rules p) (exprs it.arguments.value) (with_heap (heap x.start.value) s) g)) k)) c.evals.ensures

use Rattle.std.proofs.Common.{◌≡◌, true, false, ◌||◌, refl, ap, sym, ◌∙◌}
use Rattle.vx_terms.specs.Terms.{Term, same}
use Rattle.vx_heap.specs.Views.{held_term}
use Rattle.vx_terms.specs.Views.{term}
use Rattle.vx_terms.specs.Build.{true_term, false_term}
use Rattle.vx_resolved.specs.Settled.{settled}
use Rattle.vx_rules.specs.States.{State, is_quiet}
use Rattle.vx_states.specs.SymStates.{state}
use Rattle.vx_rules.specs.Codes.{code}
use Rattle.vx_stack.specs.Stack.{frame_tree, query}
use Rattle.vx_stack.proofs.Steps.{ask_passes, ask_fact, ask_false, stepped_as}
use Rattle.vx_stack.proofs.conts.Conts.ask.Goals as goal

pub returns-then-passes : goal.returns-then-passes
returns-then-passes c =
    let p = settled c.args.program.now in
    let c' : Term = held_term c.args.condition in
    let s' : State = state c.args.state in
    let e : (same c' true_term || is_quiet s') ≡ true = ap (λ t. same (term t) true_term || is_quiet s') (sym c.deref.ensures) ∙ sym c.passes.ensures ∙ c.if-passes.true in
    stepped_as p c.go.result _ _ _ c.go.new.self.sides.items (ask_passes c' c.args.place (code c.args.code) s' (frame_tree p c.args.frame) e) c.go.ensures

pub returns-then-is_false : goal.returns-then-is_false
returns-then-is_false c =
    let p = settled c.args.program.now in
    let c' : Term = held_term c.args.condition in
    let s' : State = state c.args.state in
    let q = c.in_ok-query.query in
    let e1 : (same c' true_term || is_quiet s') ≡ false = ap (λ t. same (term t) true_term || is_quiet s') (sym c.deref.ensures) ∙ sym c.passes.ensures ∙ c.if-passes.false in
    let e2 : same c' false_term ≡ true = ap (λ t. same (term t) false_term) (sym c.deref-2.ensures) ∙ sym c.is_false.ensures ∙ c.if-is_false.true in
    stepped_as p c.check_impossible.result _ _ _ c.check_impossible.new.self.sides.items
    (ask_false c' c.args.place (code c.args.code) s' (frame_tree p c.args.frame) (query q) e1 e2 c.in_ok-query.ensures.question)
    (c.check_impossible.ensures p)

pub returns : goal.returns
returns c =
    let p = settled c.args.program.now in
    let c' : Term = held_term c.args.condition in
    let s' : State = state c.args.state in
    let q = c.in_ok-query.query in
    let e1 : (same c' true_term || is_quiet s') ≡ false = ap (λ t. same (term t) true_term || is_quiet s') (sym c.deref.ensures) ∙ sym c.passes.ensures ∙ c.if-passes.false in
    let e2 : same c' false_term ≡ false = ap (λ t. same (term t) false_term) (sym c.deref-2.ensures) ∙ sym c.is_false.ensures ∙ c.if-is_false.false in
    stepped_as p c.check.result _ _ _ c.check.new.self.sides.items
    (ask_fact c' c.args.place (code c.args.code) s' _ (frame_tree p c.args.frame) (query q) e1 e2 refl c.in_ok-query.ensures.question)
    (c.check.ensures p)

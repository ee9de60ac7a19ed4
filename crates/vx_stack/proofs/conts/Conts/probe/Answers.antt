use Rattle.std.proofs.Common.{◌≡◌, true, false, ap, sym, ◌∙◌}
use Rattle.vx_terms.specs.Terms.{Term, same}
use Rattle.vx_heap.specs.Views.{held_term}
use Rattle.vx_terms.specs.Views.{term}
use Rattle.vx_terms.specs.Build.{true_term, false_term}
use Rattle.vx_resolved.specs.Settled.{settled}
use Rattle.vx_rules.specs.States.{State}
use Rattle.vx_states.specs.SymStates.{state}
use Rattle.vx_rules.specs.Codes.{code}
use Rattle.vx_stack.specs.Stack.{side_tree, query}
use Rattle.vx_stack.proofs.Steps.{probe_true, probe_quiet, probe_other, probe_false, stepped_as}
use Rattle.vx_stack.proofs.conts.Conts.probe.Goals as goal

pub returns-then-is_true : goal.returns-then-is_true
returns-then-is_true c =
    let p = settled c.args.program.now in
    let c' : Term = held_term c.args.condition.now in
    let e : same c' true_term ≡ true = ap (λ t. same (term t) true_term) (sym c.deref.ensures) ∙ sym c.is_true.ensures ∙ c.if-is_true.true in
    stepped_as p c.on.result _ _ _ c.on.new.self.sides.items
    (probe_true c' c.args.place (code c.args.code) (state c.args.otherwise.state) (side_tree p c.args.refuted) (side_tree p c.args.otherwise) e)
    (c.on.ensures p)

pub returns-then-is_quiet : goal.returns-then-is_quiet
returns-then-is_quiet c =
    let p = settled c.args.program.now in
    let c' : Term = held_term c.args.condition.now in
    let s' : State = state c.args.otherwise.state in
    let e1 : same c' true_term ≡ false = ap (λ t. same (term t) true_term) (sym c.deref.ensures) ∙ sym c.is_true.ensures ∙ c.if-is_true.false in
    stepped_as p c.on-then-is_quiet.result _ _ _ c.on-then-is_quiet.new.self.sides.items
    (probe_quiet c' c.args.place (code c.args.code) s' (side_tree p c.args.refuted) (side_tree p c.args.otherwise) (sym c.is_quiet.ensures ∙ c.if-is_quiet.true) e1)
    (c.on-then-is_quiet.ensures p)

pub returns-then-is_false : goal.returns-then-is_false
returns-then-is_false c =
    let p = settled c.args.program.now in
    let c' : Term = held_term c.args.condition.now in
    let s' : State = state c.args.otherwise.state in
    let e1 : same c' true_term ≡ false = ap (λ t. same (term t) true_term) (sym c.deref.ensures) ∙ sym c.is_true.ensures ∙ c.if-is_true.false in
    let e2 : same c' false_term ≡ true = ap (λ t. same (term t) false_term) (sym c.deref-2.ensures) ∙ sym c.is_false.ensures ∙ c.if-is_false.true in
    stepped_as p c.check_otherwise.result _ _ _ c.check_otherwise.new.self.sides.items
    (probe_false c' c.args.place (code c.args.code) s' (side_tree p c.args.refuted) (side_tree p c.args.otherwise) (query c.in_ok-query.query) (sym c.is_quiet.ensures ∙ c.if-is_quiet.false) e1 e2 c.in_ok-query.ensures.question)
    (c.check_otherwise.ensures p)

pub returns : goal.returns
returns c =
    let p = settled c.args.program.now in
    let c' : Term = held_term c.args.condition.now in
    let s' : State = state c.args.otherwise.state in
    let e1 : same c' true_term ≡ false = ap (λ t. same (term t) true_term) (sym c.deref.ensures) ∙ sym c.is_true.ensures ∙ c.if-is_true.false in
    let e2 : same c' false_term ≡ false = ap (λ t. same (term t) false_term) (sym c.deref-2.ensures) ∙ sym c.is_false.ensures ∙ c.if-is_false.false in
    stepped_as p c.check_both.result _ _ _ c.check_both.new.self.sides.items
    (probe_other c' c.args.place (code c.args.code) s' (side_tree p c.args.refuted) (side_tree p c.args.otherwise) (query c.in_ok-query.query) (sym c.is_quiet.ensures ∙ c.if-is_quiet.false) e1 e2 c.in_ok-query.ensures.question)
    (c.check_both.ensures p)

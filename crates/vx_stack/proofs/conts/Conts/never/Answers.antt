use Rattle.std.proofs.Common.{false, ap, sym, ◌∙◌}
use Rattle.vx_resolved.specs.Settled.{settled}
use Rattle.vx_rules.specs.States.{State}
use Rattle.vx_states.specs.SymStates.{state}
use Rattle.vx_rules.specs.Rules.{question}
use Rattle.vx_rules.specs.Codes.{code}
use Rattle.vx_stack.specs.Stack.{query}
use Rattle.vx_stack.proofs.Steps.{never_asks, stepped_as}
use Rattle.vx_stack.proofs.conts.Conts.never.Goals as goal

pub returns : goal.returns
returns c =
    let p = settled c.args.program.now in
    let s' : State = state c.args.state in
    let q = c.in_ok-query.query in
    stepped_as p c.check_impossible.result _ _ _ c.check_impossible.new.self.sides.items
    (never_asks c.args.place (code c.args.code) s' (query q) (sym c.is_quiet.ensures ∙ c.if-is_quiet.false) (c.in_ok-query.ensures.question ∙ ap (λ t. question false t c.args.place (code c.args.code) s') c.in_ok-never.ensures))
    (c.check_impossible.ensures p)

use Rattle.std.proofs.Common.{◌≡◌, ap, ◌∙◌, None}
use Rattle.vx_ast.specs.Syntax.{joined}
use Rattle.vx_resolved.specs.Resolved.{method}
use Rattle.vx_terms.specs.Build.{whole_amount}
use Rattle.vx_resolved.specs.Settled.{settled}
use Rattle.vx_rules.specs.States.{State, declare_all}
use Rattle.vx_states.specs.SymStates.{state}
use Rattle.vx_rules.specs.Members.{blank, rules, sides}
use Rattle.vx_rules.specs.Rules.{produce}
use Rattle.vx_members.proofs.member.first_side.Goals as goal

pub returns : goal.returns
returns c =
    let p = settled c.args.program.now in
    let m = method c.args.m.now.value in
    let s : state c.in_ok-state.state ≡ declare_all m.returns (declare_all m.parameters blank) =
    c.in_ok-state.ensures ∙ ap (λ x. declare_all (method x).returns (declare_all (method x).parameters blank)) c.deref.ensures in
    c.in_ok-next.ensures (state c.in_ok-state.state)
    ∙ ap (λ (x : State). produce p (rules p) (joined m.place m.requires) whole_amount None x (sides p (rules p) m)) s

use Rattle.std.proofs.Common.{◌≡◌, map, ap, ◌∙◌}
use Rattle.vx_resolved.specs.Resolved.{declaration}
use Rattle.vx_rules.specs.States.{declare_all}
use Rattle.vx_rules.specs.Members.{blank}
use Rattle.vx_states.specs.SymStates.{state}
use Rattle.vx_members.proofs.member.first_state.Goals as goal

pub returns : goal.returns
returns c =
    let m = c.args.m.now in
    let s : state c.declare_all.new.self ≡ declare_all (map declaration m.parameters.items) blank =
    c.in_ok-declare_all.ensures ∙ ap (λ l. declare_all (map declaration l) (state c.in_ok-state.state)) c.deref.ensures.value
    ∙ ap (declare_all (map declaration m.parameters.items)) c.in_ok-state.ensures in
    c.in_ok-declare_all-2.ensures ∙ ap (λ l. declare_all (map declaration l) (state c.declare_all.new.self)) c.deref-2.ensures.value
    ∙ ap (declare_all (map declaration m.returns.items)) s

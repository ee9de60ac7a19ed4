use Rattle.std.proofs.Common.{◌≡◌, map, drop}
use Rattle.vx_resolved.specs.Resolved.{declaration}
use Rattle.vx_rules.specs.States.{declare_all}
use Rattle.vx_states.specs.SymStates.{state}
use Rattle.vx_states.proofs.state.SymState.declare_all.Given as goal

abbrev pub invariant-loop-d : goal.invariant-loop-d
invariant-loop-d l = declare_all (map declaration (drop l.d-index l.declarations)) (state l.self) ≡ declare_all (map declaration l.declarations) (state l.initial.self)

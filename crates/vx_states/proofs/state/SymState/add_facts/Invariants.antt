use Rattle.std.proofs.Common.{◌≡◌, drop}
use Rattle.vx_heap.specs.Views.{terms_of}
use Rattle.vx_rules.specs.States.{with_facts}
use Rattle.vx_states.specs.SymStates.{state}
use Rattle.vx_states.proofs.state.SymState.add_facts.Given as goal

abbrev pub invariant-loop-fact : goal.invariant-loop-fact
invariant-loop-fact l = with_facts (terms_of (drop l.fact-index l.fact-items)) (state l.self) ≡ with_facts (terms_of l.fn.facts.items) (state l.initial.self)

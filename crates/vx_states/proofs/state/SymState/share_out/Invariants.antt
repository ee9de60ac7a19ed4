use Rattle.std.proofs.Common.{◌≡◌, drop}
use Rattle.vx_heap.specs.Views.{candidates_of, held_term}
use Rattle.vx_rules.specs.Chunks.{shared_out}
use Rattle.vx_states.specs.SymStates.{state}
use Rattle.vx_states.proofs.state.SymState.share_out.Given as goal

abbrev pub invariant-loop-candidate : goal.invariant-loop-candidate
invariant-loop-candidate l =
    shared_out (held_term l.receiver) (held_term l.wanted) (candidates_of (drop l.candidate-index l.candidates)) (state l.self) ≡ shared_out (held_term l.receiver) (held_term l.fn.amount) (candidates_of l.candidates) (state l.initial.self)

use Rattle.std.proofs.Common.{◌≡◌, drop}
use Rattle.vx_heap.specs.Views.{candidates_of, held_term}
use Rattle.vx_rules.specs.Chunks.{written_each}
use Rattle.vx_states.specs.SymStates.{state}
use Rattle.vx_states.proofs.state.SymState.write_each.Given as goal

abbrev pub invariant-loop-candidate : goal.invariant-loop-candidate
invariant-loop-candidate l =
    written_each (held_term l.receiver) (held_term l.value) (candidates_of (drop l.candidate-index l.candidates)) (state l.self) ≡ written_each (held_term l.receiver) (held_term l.value) (candidates_of l.candidates) (state l.initial.self)

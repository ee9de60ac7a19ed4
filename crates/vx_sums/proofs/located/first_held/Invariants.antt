use Rattle.std.proofs.Common.{◌≡◌, drop}
use Rattle.vx_heap.specs.Views.{candidates_of, terms_of}
use Rattle.vx_rules.specs.Chunks.{surely}
use Rattle.vx_stack.specs.Stack.{wanted_by}
use Rattle.vx_states.specs.SymStates.{optional_term}
use Rattle.vx_sums.proofs.located.first_held.Given as goal

abbrev pub invariant-loop-c : goal.invariant-loop-c
invariant-loop-c l =
    surely (wanted_by (optional_term l.amount) (terms_of l.arguments)) (candidates_of l.candidates) ≡ surely (wanted_by (optional_term l.amount) (terms_of l.arguments)) (candidates_of (drop l.c-index l.candidates))

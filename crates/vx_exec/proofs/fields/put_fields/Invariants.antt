use Rattle.std.proofs.Common.{◌≡◌, map, drop, string_bytes}
use Rattle.vx_resolved.specs.Settled.{settled}
use Rattle.vx_rules.specs.Members.{put_fields}
use Rattle.vx_states.specs.SymStates.{state}
use Rattle.vx_heap.specs.Views.{held_term}
use Rattle.vx_exec.proofs.fields.put_fields.Given as goal

abbrev pub invariant-loop-field : goal.invariant-loop-field
invariant-loop-field l =
    put_fields (settled l.program) (map (λ f. string_bytes f.value) (drop l.field-index l.fields)) (held_term l.reference) (state l.state)
    ≡ put_fields (settled l.program) (map (λ f. string_bytes f.value) l.fields) (held_term l.reference) (state l.initial.state)

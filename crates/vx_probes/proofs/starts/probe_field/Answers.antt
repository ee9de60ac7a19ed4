use Rattle.std.proofs.Common.{◌∙◌, ap}
use Rattle.std.specs.Prelude.{string_bytes}
use Rattle.vx_resolved.specs.Settled.{settled}
use Rattle.vx_heap.specs.Views.{heap, held_term}
use Rattle.vx_rules.specs.Chunks.{field_key, candidates}
use Rattle.vx_rules.specs.Rules.{never}
use Rattle.vx_states.specs.SymStates.{state}
use Rattle.vx_stack.specs.Stack.{giving}
use Rattle.vx_probes.proofs.Firsts.{searched, stepped_by}
use Rattle.vx_probes.proofs.starts.probe_field.Goals as goal

pub returns : goal.returns
returns c =
    let p = settled c.args.program.now in
    let s = state c.args.state in
    let found = c.in_ok-wanted.ensures in
    let key = field_key (string_bytes c.args.field.now.value) (held_term c.args.receiver) in
    stepped_by p c.read_from.result _ _ _ c.read_from.ensures _
    (searched c.in_ok-wanted.wanted.value c.args.place _ _ _ (candidates key s.heap) s (λ k. giving p c.args.hole.now.value k.chunk.value s) (λ at y. never at y s)
    found.place found.code found.arguments found.amount (found.candidates ∙ ap (λ y. candidates key (heap y)) c.deref.ensures))

use Rattle.std.proofs.Common.{◌∙◌, ap, None}
use Rattle.std.specs.Prelude.{string_bytes}
use Rattle.vx_resolved.specs.Settled.{settled}
use Rattle.vx_heap.specs.Views.{heap}
use Rattle.vx_rules.specs.Chunks.{instance_key, candidates}
use Rattle.vx_rules.specs.Members.{rooted}
use Rattle.vx_rules.specs.Rules.{never}
use Rattle.vx_states.specs.SymStates.{state}
use Rattle.vx_stack.specs.Stack.{verified_body}
use Rattle.vx_stack.specs.Values.{values}
use Rattle.vx_probes.proofs.Firsts.{searched, stepped_by}
use Rattle.vx_probes.proofs.measures.seek_root.Goals as goal

pub returns : goal.returns
returns c =
    let p = settled c.args.program.now in
    let s = state c.args.state in
    let found = c.in_ok-wanted.ensures in
    let key = instance_key (string_bytes c.args.predicate.now.value) (values c.args.arguments.now) in
    stepped_by p c.root_from.result _ _ _ c.root_from.ensures _
    (searched c.in_ok-wanted.wanted.value c.args.place _ None _ (candidates key s.heap) s (λ k. verified_body p c.args.v.now.value None (rooted k s)) (λ at y. never at y s)
    found.place found.code found.arguments found.amount (found.candidates ∙ c.in_ok-among.ensures ∙ ap (λ y. candidates key (heap y)) c.deref.ensures))

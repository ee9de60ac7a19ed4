use Rattle.std.proofs.Common.{◌∙◌, ap, None}
use Rattle.std.specs.Prelude.{string_bytes}
use Rattle.vx_resolved.specs.Settled.{settled}
use Rattle.vx_heap.specs.Views.{heap}
use Rattle.vx_rules.specs.Chunks.{instance_key, candidates, only_inner}
use Rattle.vx_rules.specs.Rules.{never}
use Rattle.vx_states.specs.SymStates.{state}
use Rattle.vx_stack.specs.declared.waiting.Applied.{Applied}
use Rattle.vx_stack.specs.declared.waiting.Application.{Application}
use Rattle.vx_stack.specs.Stack.{giving, told}
use Rattle.vx_stack.specs.Values.{values}
use Rattle.vx_probes.proofs.Firsts.{searched, stepped_by}
use Rattle.vx_probes.proofs.measures.seek_inner.Goals as goal

pub returns : goal.returns
returns c =
    let p = settled c.args.program.now in
    let s = state c.args.state in
    let found = c.in_ok-wanted.ensures in
    let key = instance_key (string_bytes c.args.predicate.now.value) (values c.args.arguments.now) in
    let place = ap (λ (y : Application). y.place) c.deref-2.ensures ∙ ap (λ (y : Applied). y.application.value.place) c.deref.ensures in
    stepped_by p c.measure_from.result _ _ _ c.measure_from.ensures _
    (searched c.in_ok-wanted.wanted.value c.args.x.now.value.application.value.place _ None _ (only_inner (candidates key s.heap)) s (λ k. told p c.args.x.now.value (giving p c.args.hole.now.value) s) (λ at y. never at y s)
    (found.place ∙ place) found.code found.arguments found.amount (found.candidates ∙ c.in_ok-among.ensures ∙ ap (λ y. only_inner (candidates key (heap y))) c.deref-3.ensures))

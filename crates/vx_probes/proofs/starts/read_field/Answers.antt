use Rattle.std.proofs.Common.{◌∙◌, sym, true, false}
use Rattle.std.specs.Prelude.{string_bytes}
use Rattle.vx_resolved.specs.Settled.{settled}
use Rattle.vx_heap.specs.Views.{held_term}
use Rattle.vx_states.specs.SymStates.{state}
use Rattle.vx_stack.specs.Stack.{giving}
use Rattle.vx_probes.proofs.Firsts.{stepped_by}
use Rattle.vx_probes.proofs.Levels.{reads}
use Rattle.vx_probes.proofs.starts.read_field.Goals as goal

pub returns-then-is_quiet : goal.returns-then-is_quiet
returns-then-is_quiet c =
    let p = settled c.args.program.now in
    stepped_by p c.probe_field.result _ _ _ c.probe_field.ensures _
    (reads p (string_bytes c.args.field.now.value) (held_term c.args.receiver) c.args.place (state c.args.state) (giving p c.args.hole.now.value) true (sym c.is_quiet.ensures ∙ c.if-is_quiet.true))

pub returns-else-is_quiet : goal.returns-else-is_quiet
returns-else-is_quiet c =
    let p = settled c.args.program.now in
    stepped_by p c.read.result _ _ _ c.read.ensures _
    (reads p (string_bytes c.args.field.now.value) (held_term c.args.receiver) c.args.place (state c.args.state) (giving p c.args.hole.now.value) false (sym c.is_quiet.ensures ∙ c.if-is_quiet.false))

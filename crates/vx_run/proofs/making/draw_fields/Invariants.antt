use Rattle.std.proofs.Common.{◌≡◌, drop}
use Rattle.vx_resolved.specs.Resolved.{names_of}
use Rattle.vx_resolved.specs.Settled.{settled}
use Rattle.vx_run.specs.ConfigViews.{state_of}
use Rattle.vx_run.specs.Supplies.{supply}
use Rattle.vx_run.specs.Tasks.{new_fields}
use Rattle.vx_run.proofs.making.draw_fields.Given as goal

abbrev pub invariant-loop-field : goal.invariant-loop-field
invariant-loop-field l =
    new_fields (settled l.program) l.r (names_of (drop l.field-index l.fields)) (state_of l.state) (supply l.supply)
    ≡ new_fields (settled l.program) l.r (names_of l.fields) (state_of l.initial.state) (supply l.initial.supply)

use Rattle.std.proofs.Common.{ℕ, Bool, Option, Some, None, sym, ◌∙◌, ap}
use Rattle.std.specs.Prelude.{string_bytes, if◌then◌else◌}
use Rattle.std.specs.declared.alloc.Global.{Global}
use Rattle.std.specs.declared.string.String.{String}
use Rattle.vx_meaning.specs.Values.{Value}
use Rattle.vx_meaning.specs.States.{Location, value_at}
use Rattle.vx_resolved.specs.Settled.{settled}
use Rattle.vx_run.specs.Evaluated as evaluated
use Rattle.vx_run.specs.Going.{Going, expect, Failed}
use Rattle.vx_run.specs.Views.{value}
use Rattle.vx_run.specs.Configs.{Setting}
use Rattle.vx_run.specs.ConfigViews.{state_of}
use Rattle.vx_run.specs.Pending.{reading, read_at, state_at}
use Rattle.vx_run.specs.declared.values.Value.{Value as Value'}
use Rattle.vx_run.proofs.reading.read.Goals as goal

pub returns-else-branch : goal.returns-else-branch
returns-else-branch c = λ steps.
    let t : Setting = record { program = settled c.args.program.now; steps = steps } in
    let r = reading c.args.r in
    let s = state_at c.args.when (state_of c.args.state.now) in
    let at = c.args.at in
    let f = string_bytes c.args.field.now.value in
    let there = λ (x : String Global). (let l : Location = record { receiver = c.in-Ref.receiver; field = string_bytes x } in l) in
    let come = λ (o : Option Value). (let m : Going ℕ Value = expect o (Failed at) in m) in
    let l = there c.in_ok-clone-in-Ref.field-0.value in
    ap come (sym (c.in_ok-is_readable-in-Ref.ensures t.program ∙ ap (λ (b : Bool). if b then Some (value_at t.program s.heap l) else None) c.if-branch.false))
    ∙ ap (λ (x : String Global). come (evaluated.read t.program r s (there x))) c.in_ok-clone-in-Ref.ensures.cases
    ∙ ap (λ (v : Value'). read_at t r s at f (value v)) (sym c.in-Ref.is)

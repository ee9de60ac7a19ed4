use Rattle.std.proofs.Common.{ℕ, Result, sym, ◌∙◌, ap}
use Rattle.std.specs.Prelude.{string_bytes}
use Rattle.vx_ast.specs.declared.ValueType.{ValueType}
use Rattle.vx_meaning.specs.Values.{Value}
use Rattle.vx_meaning.specs.States.{State}
use Rattle.vx_run.specs.Draws.{by_draws}
use Rattle.vx_run.specs.Going.{Going, Outcome, Supply, continued, gives, chosen}
use Rattle.vx_run.specs.ConfigViews.{state_of}
use Rattle.vx_run.specs.Supplies.{supply}
use Rattle.vx_run.specs.Tasks.{with_field}
use Rattle.vx_run.proofs.making.draw_field.Goals as goal

pub returns : goal.returns
returns c =
    let s = state_of c.args.state.now in
    let x = string_bytes c.args.field.now.value in
    let on : Value → Going ℕ State = λ v. gives (with_field c.args.r x v s) in
    ap (λ (u : State). let g : Going ℕ State = gives u in g (supply c.draw-v.new.self)) c.in_ok-add_field.ensures
    ∙ ap (λ (r : Result (Value × Supply ℕ) Outcome). continued r on) (sym c.draw-v.ensures)
    ∙ ap (λ (of : ValueType). continued (chosen by_draws of (supply c.args.supply.now)) on) c.field_type.ensures

use Rattle.std.proofs.Common.{ℕ, Bool, true, false, ◌∷◌, Result, Ok, sym, ◌∙◌, ap}
use Rattle.vx_ast.specs.declared.ValueType.{ValueType}
use Rattle.vx_meaning.specs.Values.{Value}
use Rattle.vx_meaning.specs.States.{Heap}
use Rattle.vx_resolved.specs.Settled.{settled}
use Rattle.vx_run.specs.Draws.{by_draws}
use Rattle.vx_run.specs.Given as given
use Rattle.vx_run.specs.Going.{Outcome, Supply, continued, chosen, gives}
use Rattle.vx_run.specs.Held as held
use Rattle.vx_run.specs.Supplies.{supply}
use Rattle.vx_run.specs.Widths.{within_128_bits}
use Rattle.vx_run.proofs.filling.valued.Goals as goal

pub returns-then-is_new : goal.returns-then-is_new
returns-then-is_new c =
    let p = settled c.args.program.now in
    let l = held.location c.args.l.now in
    let h = held.heap c.args.heap.now.value in
    let s = supply c.args.from.now in
    ap (λ (y : Bool). given.valued p by_draws within_128_bits y l h s) c.if-is_new.true
    ∙ ap (λ (t : ValueType). continued (chosen by_draws t s) (λ v. gives ((l, v) ∷ h))) (sym c.field_type.ensures)
    ∙ ap (λ (x : Result (Value × Supply ℕ) Outcome). continued x (λ v. gives ((l, v) ∷ h))) c.draw-v.ensures
    ∙ ap (λ (x : Heap). let r : Result (Heap × Supply ℕ) Outcome = Ok (x, supply c.draw-v.new.self) in r) (sym c.in_ok-written.ensures)

pub returns : goal.returns
returns c =
    let p = settled c.args.program.now in
    let l = held.location c.args.l.now in
    let h = held.heap c.args.heap.now.value in
    let s = supply c.args.from.now in
    ap (λ (y : Bool). given.valued p by_draws within_128_bits y l h s) c.if-is_new.false
    ∙ ap (λ (x : Heap). let r : Result (Heap × Supply ℕ) Outcome = Ok (x, s) in r) (sym (ap held.heap c.in_ok-same.ensures.cases))

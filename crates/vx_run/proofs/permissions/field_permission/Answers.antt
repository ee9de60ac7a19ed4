use Rattle.std.proofs.Common.{ℕ, sym, ◌∙◌, ap}
use Rattle.std.specs.Prelude.{string_bytes}
use Rattle.vx_frac.specs.Fraction.{fraction}
use Rattle.vx_frac.specs.Fractions.{Fraction}
use Rattle.vx_ast.specs.Syntax.{Name}
use Rattle.vx_meaning.specs.States.{Resource, At}
use Rattle.vx_run.specs.Going.{Going, gives}
use Rattle.vx_run.specs.Views.{value}
use Rattle.vx_run.specs.Visits.{field_of}
use Rattle.vx_run.specs.declared.values.Value.{Value as Value'}
use Rattle.vx_run.proofs.Permitted.{amount_is, amount_ends}
use Rattle.vx_run.proofs.permissions.field_permission.Goals as goal

pub returns-in_ok-field-in-Ok : goal.returns-in_ok-field-in-Ok
returns-in_ok-field-in-Ok c =
    let f = string_bytes c.args.f.now.value in
    let on = λ (q : Fraction). (let p : Resource × Fraction = (At record { receiver = c.in-Ref.receiver; field = f }, q) in p) in
    ap (λ (x : Name). let g : Going ℕ (Resource × Fraction) = gives (At record { receiver = c.in-Ref.receiver; field = x }, fraction c.in-Ok.q) in g) (ap string_bytes c.in_ok-field-in-Ok.ensures.cases)
    ∙ amount_is c.args.at (value c.args.w) _ c.in-Ok.q on c.amount.ensures c.in-Ok.is
    ∙ ap (λ (v : Value'). field_of c.args.at f (value v) (value c.args.w)) (sym c.in-Ref.is)

pub returns-in-Err : goal.returns-in-Err
returns-in-Err c =
    let f = string_bytes c.args.f.now.value in
    let on = λ (q : Fraction). (let p : Resource × Fraction = (At record { receiver = c.in-Ref.receiver; field = f }, q) in p) in
    amount_ends c.args.at (value c.args.w) _ c.in-Err.end on c.amount.ensures c.in-Err.is
    ∙ ap (λ (v : Value'). field_of c.args.at f (value v) (value c.args.w)) (sym c.in-Ref.is)

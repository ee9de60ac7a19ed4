use Rattle.std.proofs.Common.{ℕ, List, map, ◌∙◌, ap, ap₂}
use Rattle.std.specs.Prelude.{string_bytes}
use Rattle.std.specs.declared.alloc.Global.{Global}
use Rattle.std.specs.declared.vec.Vec.{Vec}
use Rattle.vx_frac.specs.Fraction.{fraction}
use Rattle.vx_frac.specs.Fractions.{Fraction}
use Rattle.vx_ast.specs.Syntax.{Name}
use Rattle.vx_meaning.specs.Values.{Value}
use Rattle.vx_meaning.specs.States.{Resource, Folded}
use Rattle.vx_run.specs.Going.{Going, gives}
use Rattle.vx_run.specs.Views.{value}
use Rattle.vx_run.specs.declared.values.Value.{Value as Value'}
use Rattle.vx_run.proofs.Permitted.{amount_is, amount_ends}
use Rattle.vx_run.proofs.permissions.instance_permission.Goals as goal

pub returns-in_ok-arguments-in-Ok : goal.returns-in_ok-arguments-in-Ok
returns-in_ok-arguments-in-Ok c =
    let i = string_bytes c.args.i.now.value in
    let vs = map value c.args.vs.items in
    let part : Name → List Value → Fraction → Resource × Fraction = λ x us q. (Folded record { predicate = x; arguments = us }, q) in
    ap₂ (λ (x : Name) (us : List Value). let g : Going ℕ (Resource × Fraction) = gives (part x us (fraction c.in-Ok.q)) in g)
    (ap string_bytes c.in_ok-predicate-in-Ok.ensures.cases) (ap (λ (us : Vec Value' Global). map value us.items) c.in_ok-arguments-in-Ok.ensures.ok)
    ∙ amount_is c.args.at (value c.args.w) c.amount.result c.in-Ok.q (part i vs) c.amount.ensures c.in-Ok.is

pub returns-in-Err : goal.returns-in-Err
returns-in-Err c =
    let part : Fraction → Resource × Fraction = λ q. (Folded record { predicate = string_bytes c.args.i.now.value; arguments = map value c.args.vs.items }, q) in
    amount_ends c.args.at (value c.args.w) c.amount.result c.in-Err.end part c.amount.ensures c.in-Err.is

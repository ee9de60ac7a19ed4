use Rattle.std.proofs.Common.{refl, subst}
use Rattle.std.specs.Prelude.{⊤}
use Rattle.vx_ast.specs.declared.Expr as expr
use Rattle.vx_ast.specs.Written.{written_all, written_expr}
use Rattle.vx_expressions.specs.Faults.{assertion}
use Rattle.vx_statements.specs.StatementFaults.{assertions}
use Rattle.vx_expressions.specs.Gives.{Fails}
use Rattle.vx_expressions.specs.Views.{setting}
use Rattle.vx_expressions.proofs.Fails.{passed}
use Rattle.vx_statements.proofs.Loops.{ends}
use Rattle.vx_statements.proofs.stmt.assertions.Goals as goal

pub returns-in_err-assertion : goal.returns-in_err-assertion
returns-in_err-assertion c =
    let s = setting c.args.s in
    let f = c.in_err-assertion.field-0.0 in
    passed (λ x. tt {0}) c.from_residual.result f _ c.from_residual.ensures.1
    (ends (λ (u : ⊤) es. assertions s (written_all es)) (λ u e. assertion s (written_expr e.value)) (λ u e. tt {0}) (λ u e es. refl) c.args.es.now c.loop-e.e-index c.e-item.result (tt {0}) _ f
    c.loop-e-test.true c.e-item.is (subst (λ (e : expr.Expr). Fails f (assertion s (written_expr e))) c.deref.ensures c.in_err-assertion.ensures) c.loop-e.invariant)

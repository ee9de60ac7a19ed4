use Rattle.std.specs.Prelude.{vec_items}
use Rattle.vx_expressions.specs.Views.{known, listed}
use Rattle.vx_expressions.proofs.Fails.{passed}
use Rattle.vx_statements.proofs.Targets.{one_more, no_more, one_fails}
use Rattle.vx_statements.proofs.stmt.targets.Goals as goal

pub loop-x-preserved : goal.loop-x-preserved
loop-x-preserved c =
    one_more (known c.args.variables.now.entries) c.args.xs.now c.loop-x.x-index c.x-item.result (listed c.loop-x.names.keys) _ c.loop-x.types.items _ c.in_ok-target.field-0 _
    c.loop-x-test.true c.x-item.is c.in_ok-target.ensures.first c.in_ok-target.ensures.added c.in_ok-push.ensures.items c.loop-x.invariant

pub returns-in_err-target : goal.returns-in_err-target
returns-in_err-target c =
    let f = c.in_err-target.field-0.0 in
    passed vec_items c.from_residual.result f _ c.from_residual.ensures.1
    (one_fails (known c.args.variables.now.entries) c.args.xs.now c.loop-x.x-index c.x-item.result (listed c.loop-x.names.keys) c.loop-x.types.items f _
    c.loop-x-test.true c.x-item.is c.in_err-target.ensures.first c.loop-x.invariant)

pub returns : goal.returns
returns c = no_more (known c.args.variables.now.entries) c.args.xs.now c.loop-x.x-index (listed c.loop-x.names.keys) c.loop-x.types.items _ c.loop-x-test.false c.loop-x.invariant

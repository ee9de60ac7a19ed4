use Rattle.std.proofs.Common.{◌∙◌, sym, ap, subst}
use Rattle.std.proofs.lemmas.Option.{get_or_from_slice_get}
use Rattle.vx_ast.specs.declared.Expr as expr
use Rattle.vx_ast.specs.Written.{written_expr}
use Rattle.vx_expressions.specs.Places.{place_of}
use Rattle.vx_ast.specs.declared.Declaration.{Declaration}
use Rattle.vx_expressions.specs.Faults.{expect}
use Rattle.vx_expressions.specs.Gives.{Fails}
use Rattle.vx_expressions.proofs.Arguments.{ended, fits, fits_not}
use Rattle.vx_expressions.proofs.Fails.{passed}
use Rattle.vx_expressions.proofs.expr.arguments_fit.Goals as goal

pub returns-then-i-found : goal.returns-then-i-found
returns-then-i-found c = c.loop-i.invariant ∙ ended c.args.es.now c.args.found.now c.args.expected.now c.loop-i.i c.if-i-found.true

pub returns-in_err-expect : goal.returns-in_err-expect
returns-in_err-expect c =
    passed (λ x. tt {0}) c.from_residual.result c.in_err-expect.field-0.0 _ c.from_residual.ensures.1
    (fits_not c.args.es.now c.args.found.now c.args.expected.now c.loop-i.i c.index-es-i.result c.type_at-t.result c.index-expected-i.result c.place.result _ c.loop-i-test.true c.if-i-found.false
    c.index-es-i.is (sym (get_or_from_slice_get c.args.found.now c.loop-i.i c.type_at-t.result c.type_at-t.result c.type_at-t.ensures)) c.index-expected-i.is (c.place.ensures ∙ ap (λ (e : expr.Expr). place_of (written_expr e)) c.deref.ensures) c.in_err-expect.field-0.0 (subst (λ (d : Declaration). Fails c.in_err-expect.field-0.0 (expect c.place.result d.value_type c.type_at-t.result)) (sym c.index-expected-i.is) c.in_err-expect.ensures) c.loop-i.invariant)

pub loop-i-preserved : goal.loop-i-preserved
loop-i-preserved c =
    fits c.args.es.now c.args.found.now c.args.expected.now c.loop-i.i c.index-es-i.result c.type_at-t.result c.index-expected-i.result c.place.result _ c.loop-i-test.true c.if-i-found.false
    c.index-es-i.is (sym (get_or_from_slice_get c.args.found.now c.loop-i.i c.type_at-t.result c.type_at-t.result c.type_at-t.ensures)) c.index-expected-i.is (c.place.ensures ∙ ap (λ (e : expr.Expr). place_of (written_expr e)) c.deref.ensures) (ap (λ (d : Declaration). expect c.place.result d.value_type c.type_at-t.result) c.index-expected-i.is ∙ c.in_ok-expect.ensures) c.loop-i.invariant

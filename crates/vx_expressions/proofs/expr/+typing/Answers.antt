use Rattle.std.proofs.Common.{◌∙◌, refl, sym, ap, subst, drop, ◌+◌, rules}
use Rattle.vx_expressions.proofs.Rows.{one_more, no_more, one_fails, onto}
use Rattle.vx_ast.specs.Written.{written_all, written_expr, written_optional}
use Rattle.vx_expressions.specs.Faults.{check, check_all, check_held, check_share, instance}
use Rattle.vx_expressions.specs.Views.{setting}
use Rattle.vx_ast.specs.declared.Expr as expr
use Rattle.vx_expressions.proofs.Forms.{first_fails, goes_on, gives_as, call_is, held_call_is, at_access, at_unfolding, at_unary, at_binary, at_choice, at_read}
use Rattle.vx_expressions.proofs.Fails.{passed}
use Rattle.vx_expressions.specs.Gives.{Fails}
use Rattle.vx_expressions.proofs.Sizes.{falls, under_call, under_instance, under_share, under_instance_share, under_unary, under_left, under_right, under_condition, under_then, under_else, under_old, under_access, under_read, under_unfolding}
use Rattle.vx_expressions.proofs.expr.+typing.Goals as goal

pub check-returns-in_err-of-in-Unary : goal.check-returns-in_err-of-in-Unary
check-returns-in_err-of-in-Unary t c =
    let u = c.in-Unary in
    let is = at_unary (setting c.args.s) c.args.e.now u.op u.a c.deref-in-Unary.result.now u.a.value u.is c.deref-in-Unary.ensures refl in
    first_fails (λ t. t) c.from_residual.result c.in_err-of-in-Unary.field-0.0 (check (setting c.args.s) (written_expr c.deref-in-Unary.result.now)) _ _ is c.from_residual.ensures.1 c.in_err-of-in-Unary.ensures

pub check-returns-in_ok-of-in-Unary : goal.check-returns-in_ok-of-in-Unary
check-returns-in_ok-of-in-Unary t c =
    let u = c.in-Unary in
    let is = at_unary (setting c.args.s) c.args.e.now u.op u.a c.deref-in-Unary.result.now c.deref-in-Unary-2.result.now u.is c.deref-in-Unary.ensures c.deref-in-Unary-2.ensures in
    gives_as (λ t. t) c.unary_type.result _ _ (goes_on _ _ _ _ is c.in_ok-of-in-Unary.ensures) c.unary_type.ensures

pub check-returns-in_err-t-in-Binary : goal.check-returns-in_err-t-in-Binary
check-returns-in_err-t-in-Binary t c =
    let b = c.in-Binary in
    let is = at_binary (setting c.args.s) c.args.e.now b.op b.a b.b c.deref-in-Binary.result.now b.b.value b.a.value b.b.value b.is c.deref-in-Binary.ensures refl refl refl in
    first_fails (λ t. t) c.from_residual-in_err-t-in-Binary.result c.in_err-t-in-Binary.field-0.0 (check (setting c.args.s) (written_expr c.deref-in-Binary.result.now)) _ _ is c.from_residual-in_err-t-in-Binary.ensures.1 c.in_err-t-in-Binary.ensures

pub check-returns-in_err-u-in-Binary : goal.check-returns-in_err-u-in-Binary
check-returns-in_err-u-in-Binary t c =
    let b = c.in-Binary in
    let is = at_binary (setting c.args.s) c.args.e.now b.op b.a b.b c.deref-in-Binary.result.now c.deref-in-Binary-2.result.now b.a.value b.b.value b.is c.deref-in-Binary.ensures c.deref-in-Binary-2.ensures refl refl in
    first_fails (λ t. t) c.from_residual-in_err-u-in-Binary.result c.in_err-u-in-Binary.field-0.0 (check (setting c.args.s) (written_expr c.deref-in-Binary-2.result.now)) _ _ (goes_on _ _ _ _ is c.in_ok-t-in-Binary.ensures) c.from_residual-in_err-u-in-Binary.ensures.1 c.in_err-u-in-Binary.ensures

pub check-returns-in_ok-u-in-Binary : goal.check-returns-in_ok-u-in-Binary
check-returns-in_ok-u-in-Binary t c =
    let b = c.in-Binary in
    let is = at_binary (setting c.args.s) c.args.e.now b.op b.a b.b c.deref-in-Binary.result.now c.deref-in-Binary-2.result.now c.deref-in-Binary-3.result.now c.deref-in-Binary-4.result.now b.is c.deref-in-Binary.ensures c.deref-in-Binary-2.ensures c.deref-in-Binary-3.ensures c.deref-in-Binary-4.ensures in
    gives_as (λ t. t) c.binary_type.result _ _ (goes_on _ _ _ _ (goes_on _ _ _ _ is c.in_ok-t-in-Binary.ensures) c.in_ok-u-in-Binary.ensures) c.binary_type.ensures

pub check-returns-in_err-k-in-Conditional : goal.check-returns-in_err-k-in-Conditional
check-returns-in_err-k-in-Conditional t c =
    let b = c.in-Conditional in
    let is = at_choice (setting c.args.s) c.args.e.now b.c b.a b.b c.deref-in-Conditional.result.now b.a.value b.b.value b.c.value b.b.value b.is c.deref-in-Conditional.ensures refl refl refl refl in
    first_fails (λ t. t) c.from_residual-in_err-k-in-Conditional.result c.in_err-k-in-Conditional.field-0.0 (check (setting c.args.s) (written_expr c.deref-in-Conditional.result.now)) _ _ is c.from_residual-in_err-k-in-Conditional.ensures.1 c.in_err-k-in-Conditional.ensures

pub check-returns-in_err-t-in-Conditional : goal.check-returns-in_err-t-in-Conditional
check-returns-in_err-t-in-Conditional t c =
    let b = c.in-Conditional in
    let is = at_choice (setting c.args.s) c.args.e.now b.c b.a b.b c.deref-in-Conditional.result.now c.deref-in-Conditional-2.result.now b.b.value b.c.value b.b.value b.is c.deref-in-Conditional.ensures c.deref-in-Conditional-2.ensures refl refl refl in
    first_fails (λ t. t) c.from_residual-in_err-t-in-Conditional.result c.in_err-t-in-Conditional.field-0.0 (check (setting c.args.s) (written_expr c.deref-in-Conditional-2.result.now)) _ _ (goes_on _ _ _ _ is c.in_ok-k-in-Conditional.ensures) c.from_residual-in_err-t-in-Conditional.ensures.1 c.in_err-t-in-Conditional.ensures

pub check-returns-in_err-u-in-Conditional : goal.check-returns-in_err-u-in-Conditional
check-returns-in_err-u-in-Conditional t c =
    let b = c.in-Conditional in
    let is = at_choice (setting c.args.s) c.args.e.now b.c b.a b.b c.deref-in-Conditional.result.now c.deref-in-Conditional-2.result.now c.deref-in-Conditional-3.result.now b.c.value b.b.value b.is c.deref-in-Conditional.ensures c.deref-in-Conditional-2.ensures c.deref-in-Conditional-3.ensures refl refl in
    first_fails (λ t. t) c.from_residual-in_err-u-in-Conditional.result c.in_err-u-in-Conditional.field-0.0 (check (setting c.args.s) (written_expr c.deref-in-Conditional-3.result.now)) _ _ (goes_on _ _ _ _ (goes_on _ _ _ _ is c.in_ok-k-in-Conditional.ensures) c.in_ok-t-in-Conditional.ensures) c.from_residual-in_err-u-in-Conditional.ensures.1 c.in_err-u-in-Conditional.ensures

pub check-returns-in_ok-u-in-Conditional : goal.check-returns-in_ok-u-in-Conditional
check-returns-in_ok-u-in-Conditional t c =
    let b = c.in-Conditional in
    let is = at_choice (setting c.args.s) c.args.e.now b.c b.a b.b c.deref-in-Conditional.result.now c.deref-in-Conditional-2.result.now c.deref-in-Conditional-3.result.now c.deref-in-Conditional-4.result.now c.deref-in-Conditional-6.result.now b.is c.deref-in-Conditional.ensures c.deref-in-Conditional-2.ensures c.deref-in-Conditional-3.ensures c.deref-in-Conditional-4.ensures c.deref-in-Conditional-6.ensures in
    gives_as (λ t. t) c.choice_type.result _ _ (goes_on _ _ _ _ (goes_on _ _ _ _ (goes_on _ _ _ _ is c.in_ok-k-in-Conditional.ensures) c.in_ok-t-in-Conditional.ensures) c.in_ok-u-in-Conditional.ensures) c.choice_type.ensures

pub check-returns-in-Call : goal.check-returns-in-Call
check-returns-in-Call t c =
    let a = c.in-Call in
    gives_as (λ t. t) c.applied.result _ _ (call_is (setting c.args.s) c.args.e.now a.name a.es c.deref-in-Call.result.now c.deref-in-Call-2.result.now a.is c.deref-in-Call.ensures c.deref-in-Call-2.ensures.value) c.applied.ensures

pub held-returns-in_err-instance-in-Call : goal.held-returns-in_err-instance-in-Call
held-returns-in_err-instance-in-Call t c =
    let a = c.in-Call in
    first_fails (λ x. tt) c.from_residual-in_err-instance-in-Call.result c.in_err-instance-in-Call.field-0.0 (instance (setting c.args.s) c.args.e.now.place c.deref-in-Call.result.now (written_all c.deref-in-Call-2.result.now)) _ _ (held_call_is (setting c.args.s) c.args.e.now a.name a.es c.deref-in-Call.result.now c.deref-in-Call-2.result.now a.is c.deref-in-Call.ensures c.deref-in-Call-2.ensures.value) c.from_residual-in_err-instance-in-Call.ensures.1 c.in_err-instance-in-Call.ensures

pub held-returns-in_ok-instance-in-Call : goal.held-returns-in_ok-instance-in-Call
held-returns-in_ok-instance-in-Call t c =
    let a = c.in-Call in
    goes_on _ _ _ _ (held_call_is (setting c.args.s) c.args.e.now a.name a.es c.deref-in-Call.result.now c.deref-in-Call-2.result.now a.is c.deref-in-Call.ensures c.deref-in-Call-2.ensures.value) c.in_ok-instance-in-Call.ensures

pub check-returns-in-Read : goal.check-returns-in-Read
check-returns-in-Read t c =
    let a = c.in-Read in
    gives_as (λ t. t) c.read.result _ _ (at_read (setting c.args.s) c.args.e.now a.under a.field c.deref-in-Read.result.now a.is c.deref-in-Read.ensures) c.read.ensures

pub check-returns-in_err-held-in-Access : goal.check-returns-in_err-held-in-Access
check-returns-in_err-held-in-Access t c =
    let a = c.in-Access in
    let is = at_access (setting c.args.s) c.args.e.now a.a a.amount c.deref-in-Access.result.now a.is c.deref-in-Access.ensures in
    first_fails (λ t. t) c.from_residual-in_err-held-in-Access.result c.in_err-held-in-Access.field-0.0 (check_held (setting c.args.s) (written_expr c.deref-in-Access.result.now)) _ _ is c.from_residual-in_err-held-in-Access.ensures.1 c.in_err-held-in-Access.ensures

pub check-returns-in_err-share-in-Access : goal.check-returns-in_err-share-in-Access
check-returns-in_err-share-in-Access t c =
    let a = c.in-Access in
    let is = at_access (setting c.args.s) c.args.e.now a.a a.amount c.deref-in-Access.result.now a.is c.deref-in-Access.ensures in
    first_fails (λ t. t) c.from_residual-in_err-share-in-Access.result c.in_err-share-in-Access.field-0.0 (check_share (setting c.args.s) (written_optional a.amount)) _ _ (goes_on _ _ _ _ is c.in_ok-held-in-Access.ensures) c.from_residual-in_err-share-in-Access.ensures.1 c.in_err-share-in-Access.ensures

pub check-returns-in_ok-share-in-Access : goal.check-returns-in_ok-share-in-Access
check-returns-in_ok-share-in-Access t c =
    let a = c.in-Access in
    let is = at_access (setting c.args.s) c.args.e.now a.a a.amount c.deref-in-Access.result.now a.is c.deref-in-Access.ensures in
    goes_on _ _ _ _ (goes_on _ _ _ _ is c.in_ok-held-in-Access.ensures) c.in_ok-share-in-Access.ensures

pub check-returns-in_err-has_body-in-Unfolding : goal.check-returns-in_err-has_body-in-Unfolding
check-returns-in_err-has_body-in-Unfolding t c =
    let u = c.in-Unfolding in
    let is = at_unfolding (setting c.args.s) c.args.e.now u.name u.es u.amount u.a c.deref-in-Unfolding.result.now c.deref-in-Unfolding-2.result.now u.a.value u.is c.deref-in-Unfolding.ensures c.deref-in-Unfolding-2.ensures.value refl in
    first_fails (λ t. t) c.from_residual-in_err-has_body-in-Unfolding.result c.in_err-has_body-in-Unfolding.field-0.0 (instance (setting c.args.s) u.name.place c.deref-in-Unfolding.result.now (written_all c.deref-in-Unfolding-2.result.now)) _ _ is c.from_residual-in_err-has_body-in-Unfolding.ensures.1 c.in_err-has_body-in-Unfolding.ensures

pub check-returns-in_err-share-in-Unfolding : goal.check-returns-in_err-share-in-Unfolding
check-returns-in_err-share-in-Unfolding t c =
    let u = c.in-Unfolding in
    let is = at_unfolding (setting c.args.s) c.args.e.now u.name u.es u.amount u.a c.deref-in-Unfolding.result.now c.deref-in-Unfolding-2.result.now u.a.value u.is c.deref-in-Unfolding.ensures c.deref-in-Unfolding-2.ensures.value refl in
    first_fails (λ t. t) c.from_residual-in_err-share-in-Unfolding.result c.in_err-share-in-Unfolding.field-0.0 (check_share (setting c.args.s) (written_optional u.amount)) _ _ (goes_on _ _ _ _ is c.in_ok-has_body-in-Unfolding.ensures) c.from_residual-in_err-share-in-Unfolding.ensures.1 c.in_err-share-in-Unfolding.ensures

pub check-returns-in_err-t-in-Unfolding : goal.check-returns-in_err-t-in-Unfolding
check-returns-in_err-t-in-Unfolding t c =
    let u = c.in-Unfolding in
    let is = at_unfolding (setting c.args.s) c.args.e.now u.name u.es u.amount u.a c.deref-in-Unfolding.result.now c.deref-in-Unfolding-2.result.now c.deref-in-Unfolding-3.result.now u.is c.deref-in-Unfolding.ensures c.deref-in-Unfolding-2.ensures.value c.deref-in-Unfolding-3.ensures in
    first_fails (λ t. t) c.from_residual-in_err-t-in-Unfolding.result c.in_err-t-in-Unfolding.field-0.0 (check (setting c.args.s) (written_expr c.deref-in-Unfolding-3.result.now)) _ _ (goes_on _ _ _ _ (goes_on _ _ _ _ is c.in_ok-has_body-in-Unfolding.ensures) c.in_ok-share-in-Unfolding.ensures) c.from_residual-in_err-t-in-Unfolding.ensures.1 c.in_err-t-in-Unfolding.ensures

pub check-returns-in_ok-t-in-Unfolding : goal.check-returns-in_ok-t-in-Unfolding
check-returns-in_ok-t-in-Unfolding t c =
    let u = c.in-Unfolding in
    let is = at_unfolding (setting c.args.s) c.args.e.now u.name u.es u.amount u.a c.deref-in-Unfolding.result.now c.deref-in-Unfolding-2.result.now c.deref-in-Unfolding-3.result.now u.is c.deref-in-Unfolding.ensures c.deref-in-Unfolding-2.ensures.value c.deref-in-Unfolding-3.ensures in
    gives_as (λ t. t) c.unfolded_type.result _ _ (goes_on _ _ _ _ (goes_on _ _ _ _ (goes_on _ _ _ _ is c.in_ok-has_body-in-Unfolding.ensures) c.in_ok-share-in-Unfolding.ensures) c.in_ok-t-in-Unfolding.ensures) c.unfolded_type.ensures

pub check_all-loop-e-preserved : goal.check_all-loop-e-preserved
check_all-loop-e-preserved t c =
    let s = setting c.args.s in
    let es = c.args.es.now in
    one_more s es c.loop-e.e-index c.e-item.result c.loop-e.types.items c.in_ok-check.field-0 (check_all s (written_all es)) c.loop-e-test.true c.e-item.is
    (ap (λ (e : expr.Expr). check s (written_expr e)) (sym c.deref.ensures) ∙ c.in_ok-check.ensures) c.loop-e.invariant
    ∙ ap (λ ts. onto ts (check_all s (written_all (drop (c.loop-e.e-index + 1) es)))) (sym c.in_ok-push.ensures.items)

pub check-check-requires : goal.check-check-requires
check-check-requires t c = (falls _ _ _ _ _ c.decreases (under_unary c.args.e.now c.in-Unary.op c.in-Unary.a c.deref-in-Unary.result.now c.in-Unary.is c.deref-in-Unary.ensures) (search rules), tt)

pub check-check-requires-in-Binary : goal.check-check-requires-in-Binary
check-check-requires-in-Binary t c = (falls _ _ _ _ _ c.decreases (under_left c.args.e.now c.in-Binary.op c.in-Binary.a c.in-Binary.b c.deref-in-Binary.result.now c.in-Binary.is c.deref-in-Binary.ensures) (search rules), tt)

pub check-check-requires-in-Binary-2 : goal.check-check-requires-in-Binary-2
check-check-requires-in-Binary-2 t c = (falls _ _ _ _ _ c.decreases (under_right c.args.e.now c.in-Binary.op c.in-Binary.a c.in-Binary.b c.deref-in-Binary-2.result.now c.in-Binary.is c.deref-in-Binary-2.ensures) (search rules), tt)

pub check-check-requires-in-Conditional : goal.check-check-requires-in-Conditional
check-check-requires-in-Conditional t c = (falls _ _ _ _ _ c.decreases (under_condition c.args.e.now c.in-Conditional.c c.in-Conditional.a c.in-Conditional.b c.deref-in-Conditional.result.now c.in-Conditional.is c.deref-in-Conditional.ensures) (search rules), tt)

pub check-check-requires-in-Conditional-2 : goal.check-check-requires-in-Conditional-2
check-check-requires-in-Conditional-2 t c = (falls _ _ _ _ _ c.decreases (under_then c.args.e.now c.in-Conditional.c c.in-Conditional.a c.in-Conditional.b c.deref-in-Conditional-2.result.now c.in-Conditional.is c.deref-in-Conditional-2.ensures) (search rules), tt)

pub check-check-requires-in-Conditional-3 : goal.check-check-requires-in-Conditional-3
check-check-requires-in-Conditional-3 t c = (falls _ _ _ _ _ c.decreases (under_else c.args.e.now c.in-Conditional.c c.in-Conditional.a c.in-Conditional.b c.deref-in-Conditional-3.result.now c.in-Conditional.is c.deref-in-Conditional-3.ensures) (search rules), tt)

pub check-check-requires-in-Old : goal.check-check-requires-in-Old
check-check-requires-in-Old t c = (falls _ _ _ _ _ c.decreases (under_old c.args.e.now c.in-Old.a c.deref-in-Old.result.now c.in-Old.is c.deref-in-Old.ensures) (search rules), tt)

pub check-held-requires : goal.check-held-requires
check-held-requires t c = (falls _ _ _ _ _ c.decreases (under_access c.args.e.now c.in-Access.a c.in-Access.amount c.deref-in-Access.result.now c.in-Access.is c.deref-in-Access.ensures) (search rules), tt)

pub check-read-requires : goal.check-read-requires
check-read-requires t c = (falls _ _ _ _ _ c.decreases (under_read c.args.e.now c.in-Read.under c.in-Read.field c.deref-in-Read.result.now c.in-Read.is c.deref-in-Read.ensures) (search rules), tt)

pub check-check-requires-in-Unfolding : goal.check-check-requires-in-Unfolding
check-check-requires-in-Unfolding t c = (falls _ _ _ _ _ c.decreases (under_unfolding c.args.e.now c.in-Unfolding.name c.in-Unfolding.es c.in-Unfolding.amount c.in-Unfolding.a c.deref-in-Unfolding-3.result.now c.in-Unfolding.is c.deref-in-Unfolding-3.ensures) (search rules), tt)

pub check-applied-requires : goal.check-applied-requires
check-applied-requires t c = (falls _ _ _ _ _ c.decreases (under_call c.args.e.now c.in-Call.name c.in-Call.es c.deref-in-Call-2.result.now c.in-Call.is c.deref-in-Call-2.ensures.value) (search rules), tt)

pub held-instance-requires : goal.held-instance-requires
held-instance-requires t c = (falls _ _ _ _ _ c.decreases (under_call c.args.e.now c.in-Call.name c.in-Call.es c.deref-in-Call-2.result.now c.in-Call.is c.deref-in-Call-2.ensures.value) (search rules), tt)

pub check-instance-requires : goal.check-instance-requires
check-instance-requires t c = (falls _ _ _ _ _ c.decreases (under_instance c.args.e.now c.in-Unfolding.name c.in-Unfolding.es c.in-Unfolding.amount c.in-Unfolding.a c.deref-in-Unfolding-2.result.now c.in-Unfolding.is c.deref-in-Unfolding-2.ensures.value) (search rules), tt)

pub held-read-requires : goal.held-read-requires
held-read-requires t c = (falls _ _ _ _ _ c.decreases (under_read c.args.e.now c.in-Read.under c.in-Read.field c.deref.result.now c.in-Read.is c.deref.ensures) (search rules), tt)

pub check_all-returns : goal.check_all-returns
check_all-returns t c = no_more (setting c.args.s) c.args.es.now c.loop-e.e-index c.loop-e.types.items (check_all (setting c.args.s) (written_all c.args.es.now)) c.loop-e-test.false c.loop-e.invariant

pub check_all-returns-in_err-check : goal.check_all-returns-in_err-check
check_all-returns-in_err-check t c =
    let s = setting c.args.s in
    passed (λ ts. ts.items) c.from_residual.result c.in_err-check.field-0.0 (check_all s (written_all c.args.es.now)) c.from_residual.ensures.1
    (one_fails s c.args.es.now c.loop-e.e-index c.e-item.result c.loop-e.types.items c.in_err-check.field-0.0 (check_all s (written_all c.args.es.now)) c.loop-e-test.true c.e-item.is (subst (λ e. Fails c.in_err-check.field-0.0 (check s (written_expr e))) c.deref.ensures c.in_err-check.ensures) c.loop-e.invariant)

pub check-share-requires : goal.check-share-requires
check-share-requires t c = (falls _ _ _ _ _ c.decreases (under_share c.args.e.now c.in-Access.a c.in-Access.amount c.in-Access.is) (search rules), tt)

pub check-share-requires-in-Unfolding : goal.check-share-requires-in-Unfolding
check-share-requires-in-Unfolding t c =
    let u = c.in-Unfolding in
    (falls _ _ _ _ _ c.decreases (under_instance_share c.args.e.now u.name u.es u.amount u.a u.is) (search rules), tt)

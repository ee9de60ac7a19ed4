use Rattle.std.proofs.Common.{sym, ap}
use Rattle.std.proofs.lemmas.Result.{IfOk-from_err}
use Rattle.vx_terms.specs.Views.{term}
use Rattle.vx_terms.proofs.term.Term.copy.Goals as goal

pub returns-in_err-copy-in-Constant : goal.returns-in_err-copy-in-Constant
returns-in_err-copy-in-Constant c = IfOk-from_err _ _ c.from_residual.ensures.0

pub returns-in_err-copy-in-Constant-2 : goal.returns-in_err-copy-in-Constant-2
returns-in_err-copy-in-Constant-2 c = IfOk-from_err _ _ c.from_residual-in_err-copy-in-Constant-2.ensures.0

pub returns-in_err-copy-in-Apply : goal.returns-in_err-copy-in-Apply
returns-in_err-copy-in-Apply c = IfOk-from_err _ _ c.from_residual-in_err-copy-in-Apply.ensures.0

pub returns-in_err-copy-in-Apply-2 : goal.returns-in_err-copy-in-Apply-2
returns-in_err-copy-in-Apply-2 c = IfOk-from_err _ _ c.from_residual-in_err-copy-in-Apply-2.ensures.0

pub returns-in_err-clone-in-Apply : goal.returns-in_err-clone-in-Apply
returns-in_err-clone-in-Apply c = IfOk-from_err _ _ c.from_residual-in_err-clone-in-Apply.ensures.0

pub returns-in_err-clone-in-Not : goal.returns-in_err-clone-in-Not
returns-in_err-clone-in-Not c = IfOk-from_err _ _ c.from_residual-in_err-clone-in-Not.ensures.0

pub returns-in_err-clone-in-Binary : goal.returns-in_err-clone-in-Binary
returns-in_err-clone-in-Binary c = IfOk-from_err _ _ c.from_residual-in_err-clone-in-Binary.ensures.0

pub returns-in_err-clone-in-Binary-2 : goal.returns-in_err-clone-in-Binary-2
returns-in_err-clone-in-Binary-2 c = IfOk-from_err _ _ c.from_residual-in_err-clone-in-Binary-2.ensures.0

pub returns-in_err-clone-in-Ite : goal.returns-in_err-clone-in-Ite
returns-in_err-clone-in-Ite c = IfOk-from_err _ _ c.from_residual-in_err-clone-in-Ite.ensures.0

pub returns-in_err-clone-in-Ite-2 : goal.returns-in_err-clone-in-Ite-2
returns-in_err-clone-in-Ite-2 c = IfOk-from_err _ _ c.from_residual-in_err-clone-in-Ite-2.ensures.0

pub returns-in_err-clone-in-Ite-3 : goal.returns-in_err-clone-in-Ite-3
returns-in_err-clone-in-Ite-3 c = IfOk-from_err _ _ c.from_residual-in_err-clone-in-Ite-3.ensures.0

pub returns-in_err-clone-in-AllOf : goal.returns-in_err-clone-in-AllOf
returns-in_err-clone-in-AllOf c = IfOk-from_err _ _ c.from_residual-in_err-clone-in-AllOf.ensures.0

pub returns-in_err-clone-in-SomeOf : goal.returns-in_err-clone-in-SomeOf
returns-in_err-clone-in-SomeOf c = IfOk-from_err _ _ c.from_residual-in_err-clone-in-SomeOf.ensures.0

pub returns-in_ok-copy-in-Constant-2 : goal.returns-in_ok-copy-in-Constant-2
returns-in_ok-copy-in-Constant-2 c = rw (c.in_ok-copy-in-Constant.ensures, c.in_ok-copy-in-Constant-2.ensures) (ap term (sym c.in-Constant.is))

pub returns-in_ok-clone-in-Apply : goal.returns-in_ok-clone-in-Apply
returns-in_ok-clone-in-Apply c = rw (c.in_ok-copy-in-Apply.ensures, c.in_ok-copy-in-Apply-2.ensures, c.in_ok-clone-in-Apply.ensures.cases) (ap term (sym c.in-Apply.is))

pub returns-in_ok-clone-in-Not : goal.returns-in_ok-clone-in-Not
returns-in_ok-clone-in-Not c = rw c.in_ok-clone-in-Not.ensures.cases (ap term (sym c.in-Not.is))

pub returns-in_ok-clone-in-Binary-2 : goal.returns-in_ok-clone-in-Binary-2
returns-in_ok-clone-in-Binary-2 c = rw (c.in_ok-clone-in-Binary.ensures.cases, c.in_ok-clone-in-Binary-2.ensures.cases) (ap term (sym c.in-Binary.is))

pub returns-in_ok-clone-in-Ite-3 : goal.returns-in_ok-clone-in-Ite-3
returns-in_ok-clone-in-Ite-3 c = rw (c.in_ok-clone-in-Ite.ensures.cases, c.in_ok-clone-in-Ite-2.ensures.cases, c.in_ok-clone-in-Ite-3.ensures.cases) (ap term (sym c.in-Ite.is))

pub returns-in_ok-clone-in-AllOf : goal.returns-in_ok-clone-in-AllOf
returns-in_ok-clone-in-AllOf c = rw c.in_ok-clone-in-AllOf.ensures.cases (ap term (sym c.in-AllOf.is))

pub returns-in_ok-clone-in-SomeOf : goal.returns-in_ok-clone-in-SomeOf
returns-in_ok-clone-in-SomeOf c = rw c.in_ok-clone-in-SomeOf.ensures.cases (ap term (sym c.in-SomeOf.is))

pub returns-in-Truth : goal.returns-in-Truth
returns-in-Truth c = ap term (sym c.in-Truth.is)

pub returns-in-Part : goal.returns-in-Part
returns-in-Part c = ap term (sym c.in-Part.is)

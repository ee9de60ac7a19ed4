use Rattle.std.proofs.Common.{false, [], sym, subst}
use Rattle.std.proofs.lemmas.Result.{err_from_is_err_and}
use Rattle.cs_session.specs.Views.{state}
use Rattle.cs_serve.specs.Working.{IsAt}
use Rattle.cs_serve.proofs.solver.Solver.answer_all.Goals as goal

pub returns-in_err-at-clause-stops : goal.returns-in_err-at-clause-stops
returns-in_err-at-clause-stops g c =
    let old = c.args.self.now in
    let D = g.D.Duplex in
    let p = err_from_is_err_and c.from_residual.result c.from_residual.ensures.1 in rw (p.1, p.2) (λ before given at.
    let here = subst (λ x. IsAt before given (D.taken c.args.ends.now) (D.dialogue c.args.ends.now) [] old.total x (state old.session) false) (sym c.deref.ensures.value) at in
    c.in_err-at.ensures.stops before given old.total here)

use Rattle.std.proofs.Common.{◌≤◌, false, length, drop, refl, sym, subst, arith}
use Rattle.std.proofs.lemmas.List.{length-drop}
use Rattle.std.proofs.lemmas.Result.{err_from_is_err_and}
use Rattle.vx_sexp.specs.Beginnings.{GoesOn}
use Rattle.cs_session.specs.Views.{state}
use Rattle.cs_serve.specs.declared.ending.Ending.TheVariants.{Exited, BadToken}
use Rattle.cs_session.specs.Answering.{EndsAt}
use Rattle.cs_serve.specs.Working.{IsAt}
use Rattle.cs_serve.proofs.Nexts.{ends_later}
use Rattle.cs_serve.proofs.Steps.{stops_at}
use Rattle.cs_serve.proofs.answer.answer_all.Goals as goal

pub returns-in_err-over-in-Ends-clause-stops : goal.returns-in_err-over-in-Ends-clause-stops
returns-in_err-over-in-Ends-clause-stops c =
    let p = err_from_is_err_and c.from_residual.result c.from_residual.ensures.1 in rw (p.1, p.2) (λ before given taken talk total at.
    let here = c.commands.invariant.works before given taken talk total at in
    c.in_err-over-in-Ends.ensures.stops before given taken talk total
    (subst (λ x. IsAt before given taken talk c.commands.due.items total x (state c.commands.session) false) (sym c.behind-left.ensures) here))

pub returns-then-over-clause-stops : goal.returns-then-over-clause-stops
returns-then-over-clause-stops c = λ before given taken talk total at at_end.
    let here = c.commands.invariant.works before given taken talk total at in
    let left = c.behind-left.result.now in
    let there = c.in_ok-over-in-Ends.ensures.goes before given taken talk total c.in-Ends.count c.in-Ends.ensures.next
    (subst (λ x. IsAt before given taken talk c.commands.due.items total x (state c.commands.session) false) (sym c.behind-left.ensures) here) in
    stops_at Exited before c.answer.new.due.items given taken talk total (drop c.in-Ends.count left) (state c.answer.new.session) c.in_ok-over-in-Ends.over at_end there c.if-over.true

pub commands-smaller : goal.commands-smaller
commands-smaller c =
    let bytes = c.args.bytes.now in
    let ends = subst (EndsAt c.in-Ends.count) c.behind-left.ensures c.in-Ends.ensures.next in
    let some = ends_later c.in-Ends.count (drop c.commands.at bytes) ends in
    let most : c.in-Ends.count ≤ length (drop c.commands.at bytes) = ends.0 in
    omega (arith, some, most, length-drop c.commands.at bytes, c.commands.invariant.within)

pub returns-in-Bad-clause-stops : goal.returns-in-Bad-clause-stops
returns-in-Bad-clause-stops c = λ before given taken talk total at at_end.
    let here = c.commands.invariant.works before given taken talk total at in
    stops_at BadToken before c.commands.due.items given taken talk total (drop c.commands.at c.args.bytes.now) (state c.commands.session) false at_end here
    (refl, subst (λ x. GoesOn x → ⊥) c.behind-left.ensures c.in-Bad.ensures.next)

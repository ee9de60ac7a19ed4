use Rattle.std.proofs.Common.{◌∙◌, Ok, true, false, refl, sym, ap, subst}
use Rattle.vx_sexp.specs.Beginnings.{IsBeginning}
use Rattle.cs_session.specs.Views.{state}
use Rattle.cs_serve.specs.declared.ending.Ending.TheVariants.{TooLong}
use Rattle.cs_serve.specs.Serving.{IsDue}
use Rattle.cs_serve.specs.Working.{Stands}
use Rattle.cs_serve.proofs.Steps.{has_stopped}
use Rattle.cs_serve.proofs.solver.Solver.turn.Goals as goal

pub returns-then-self-eq-MOST-clause-stops : goal.returns-then-self-eq-MOST-clause-stops
returns-then-self-eq-MOST-clause-stops g c = λ before at.
    let D = g.D.Duplex in
    let now = c.answer_all.new.self in
    let from = D.given c.args.ends.now in
    let taken = D.taken c.answer_all.new.ends in
    let talk = D.dialogue c.answer_all.new.ends in
    let here = c.in_ok-answer_all.ensures.goes before from at in
    rw c.in_ok-answer_all.ensures.given (has_stopped TooLong before from taken talk now.total now.left.items (state now.session) false (D.at_end c.answer_all.new.ends) here
    (refl, c.in_ok-answer_all.ensures.waits, here.counted ∙ c.if-self-eq-MOST.true))

pub returns-then-ended-clause-stops : goal.returns-then-ended-clause-stops
returns-then-ended-clause-stops g c = λ before at.
    let D = g.D.Duplex in
    let mid = c.answer_all.new.self in
    let now = c.receive.new.self in
    let taken = D.taken c.answer_all.new.ends in
    let talk = D.dialogue c.answer_all.new.ends in
    let first = c.in_ok-answer_all.ensures.goes before (D.given c.args.ends.now) at in
    let here = subst (λ x. Stands before x taken talk mid) (sym c.in_ok-answer_all.ensures.given) first in
    let there = c.in_ok-ended.ensures.goes before here in
    let end = c.in_ok-ended.ensures.end (ap Ok c.if-ended.true) in
    let left = c.deref.ensures.value in
    let waits = subst IsBeginning (sym (left ∙ end.1)) c.in_ok-answer_all.ensures.waits in
    let due = subst (λ x. IsDue c.ending_at.result there.all x false true) left (c.ending_at.ensures.due there.all waits) in
    let due_now = subst (λ b. IsDue c.ending_at.result there.all now.left.items false b) (sym end.0) due in
    has_stopped c.ending_at.result before (D.given c.receive.new.ends) (D.taken c.receive.new.ends) (D.dialogue c.receive.new.ends) now.total now.left.items (state now.session) false (D.at_end c.receive.new.ends) there due_now

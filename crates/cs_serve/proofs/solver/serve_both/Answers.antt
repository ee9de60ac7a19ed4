use Rattle.std.proofs.Common.{◌≡◌, true, false, List, ℕ, [], Some, refl, sym, ◌∙◌, subst}
use Rattle.cs_serve.specs.Working.{Before, Stands}
use Rattle.cs_serve.proofs.Steps.{still_by_status}
use Rattle.cs_serve.proofs.solver.serve_both.Goals as goal

pub returns-clause-answers : goal.returns-clause-answers
returns-clause-answers g c = λ before from to.
    let D = g.D.Duplex in
    let solver = c.new-solver.result in
    let none : Before = record { taken = before; told = false } in
    let talk = D.dialogue c.args.ends.now in
    let begins = c.new-solver.ensures.begins none talk (λ e. absurd (let is = e in cc)) in
    let here = subst (λ x. Stands none (Some []) x talk solver) (sym to) begins in
    let stands = subst (λ x. Stands none x (D.taken c.args.ends.now) talk solver) (sym from) here in
    let stops = c.run-ending.ensures.stops none stands in
    let ended = c.take_leave.ensures.ends none (D.given c.run-ending.new.ends) (D.at_end c.run-ending.new.ends) stops in
    (c.take_leave.result, sym c.status.ensures, rw (c.take_leave.ensures.given, c.take_leave.ensures.end) ended.0)

pub returns-clause-in_turn : goal.returns-clause-in_turn
returns-clause-in_turn g c = λ before from to said.
    let D = g.D.Duplex in
    let solver = c.new-solver.result in
    let told : Before = record { taken = before; told = true } in
    let talk = D.dialogue c.args.ends.now in
    let begins = c.new-solver.ensures.begins told talk (λ _. said) in
    let here = subst (λ x. Stands told (Some []) x talk solver) (sym to) begins in
    let stands = subst (λ x. Stands told x (D.taken c.args.ends.now) talk solver) (sym from) here in
    let stops = c.run-ending.ensures.stops told stands in
    let ended = c.take_leave.ensures.ends told (D.given c.run-ending.new.ends) (D.at_end c.run-ending.new.ends) stops in
    ended.1 refl

pub returns-clause-no_fault : goal.returns-clause-no_fault
returns-clause-no_fault g c = λ other.
    let from = g.D.Duplex.put_faults c.args.ends.now in
    let still = c.take_leave.ensures.still from c.run-ending.ensures.still in
    still_by_status c.take_leave.result from (g.D.Duplex.put_faults c.take_leave.new.ends) still (λ is. other (c.status.ensures ∙ is))

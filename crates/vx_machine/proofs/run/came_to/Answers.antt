use Rattle.std.proofs.Common.{subst}
use Rattle.vx_stack.specs.Stack.{Stepped}
use Rattle.vx_machine.proofs.Walks.{turned_end, turned_leave, turned_go, turned_fork, turned_ask}
use Rattle.vx_machine.proofs.OnTop.{adds_go, adds_fork, adds_check}
use Rattle.vx_machine.proofs.run.came_to.Goals as goal

pub returns-in-End : goal.returns-in-End
returns-in-End c = λ p t old new h. record { walks = turned_end p t old new (subst (λ m. Stepped p t old m new) c.in-End.is h); adds = λ base g. tt }

pub returns-in-Leave : goal.returns-in-Leave
returns-in-Leave c = λ p t old new h. record { walks = turned_leave p t old new c.in-Leave._left (subst (λ m. Stepped p t old m new) c.in-Leave.is h); adds = λ base g. tt }

pub returns-in-Go : goal.returns-in-Go
returns-in-Go c =
    λ p t old new h.
    let k = subst (λ m. Stepped p t old m new) c.in-Go.is h in
    record { walks = turned_go p t old new k; adds = adds_go p t old new k }

pub returns-in-Fork : goal.returns-in-Fork
returns-in-Fork c =
    λ p t old new h.
    let k = subst (λ m. Stepped p t old m new) c.in-Fork.is h in
    record { walks = turned_fork p t old new k; adds = adds_fork p t old new k }

pub returns-in-Check : goal.returns-in-Check
returns-in-Check c =
    λ p t old new h.
    let k = subst (λ m. Stepped p t old m new) c.in-Check.is h in
    record { walks = turned_ask p t old new c.in-Check.query k; adds = adds_check p t old new c.in-Check.query k }

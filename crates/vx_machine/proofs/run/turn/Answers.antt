use Rattle.std.proofs.Common.{sym, subst}
use Rattle.vx_resolved.specs.Settled.{settled}
use Rattle.vx_stack.specs.Stack.{side_tree}
use Rattle.vx_machine.specs.Runs.{Turns}
use Rattle.vx_machine.proofs.Walks.{turned_impossible}
use Rattle.vx_machine.proofs.run.turn.Goals as goal

pub returns-in-Over : goal.returns-in-Over
returns-in-Over c =
    let p = settled c.args.program.now in
    let is = rw c.in-Over.is at c.in_ok-come_back.ensures p in
    record { walks = turned_impossible p (side_tree p c.args.side) c.args.conts.now.sides.items is.0 is.1; adds = λ base g. tt }

pub returns-in_ok-moved-in-Telling : goal.returns-in_ok-moved-in-Telling
returns-in_ok-moved-in-Telling c =
    let p = settled c.args.program.now in
    let is = rw c.in-Telling.is at c.in_ok-come_back.ensures p in
    subst (λ t. Turns p t c.args.conts.now.sides.items c.came_to.result c.tell.new.conts.sides.items) (sym is) (c.came_to.ensures p _ _ _ c.in_ok-moved-in-Telling.ensures)

pub step-requires : goal.step-requires
step-requires c = let is = rw c.in-Plain.is at c.in_ok-come_back.ensures (settled c.args.program.now) in is.1

pub returns-in_ok-moved-in-Plain : goal.returns-in_ok-moved-in-Plain
returns-in_ok-moved-in-Plain c =
    let p = settled c.args.program.now in
    let is = rw c.in-Plain.is at c.in_ok-come_back.ensures p in
    subst (λ t. Turns p t c.args.conts.now.sides.items c.came_to-in-Plain.result c.step.new.conts.sides.items) (sym is.0) (c.came_to-in-Plain.ensures p _ _ _ c.in_ok-moved-in-Plain.ensures)

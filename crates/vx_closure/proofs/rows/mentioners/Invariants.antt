use Rattle.vx_resolved.specs.Settled.{settled}
use Rattle.vx_closure.proofs.Turns.{Tells}
use Rattle.vx_closure.proofs.rows.mentioners.Given as goal

abbrev pub invariant-loop-number : goal.invariant-loop-number
invariant-loop-number l = Tells (settled l.program) l.number l.rows.items

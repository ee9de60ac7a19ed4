use Rattle.vx_resolved.specs.Settled.{settled}
use Rattle.vx_verifier.specs.Outsets.{hub}
use Rattle.vx_verifier.proofs.verifying.verify_members.Given as goal

abbrev pub ghosts-execute_all : goal.ghosts-execute_all
ghosts-execute_all g a =
    let w = g.W.Spawner in
    record { outset = record { program = settled a.program.now; jobs = a.jobs; command = a.command.now; first = hub w.starts w.owed w.ended w.faults w.steady a.spawner.now } }

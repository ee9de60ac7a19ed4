use Rattle.std.proofs.Common.{subst}
use Rattle.cs_proof.specs.Fits.{seen}
use Rattle.cs_ground.specs.Answers.{IsSettled}
use Rattle.cs_decide.proofs.settled.by_clauses.Goals as goal

pub returns-in-Refuted-clause-right : goal.returns-in-Refuted-clause-right
returns-in-Refuted-clause-right c =
    let stack = seen c.args.stack.now in (
    λ few.
    let finished = subst (IsSettled stack) c.in-Refuted.is (c.in_ok-steps.ensures few.plain) in
    (λ sorted. (finished.0, finished.1, c.finished_refutes.ensures.refuted stack _ finished.0), tt, tt)
    )

use Rattle.std.proofs.Common.{subst}
use Rattle.cs_model.specs.Models.{interpretation}
use Rattle.cs_proof.specs.Fits.{seen}
use Rattle.cs_answer.specs.Answers.{IsRight}
use Rattle.cs_decide.proofs.attempts.concluded.Goals as goal

pub returns-in-Satisfied-clause-opposed : goal.returns-in-Satisfied-clause-opposed
returns-in-Satisfied-clause-opposed c =
    let stack = seen c.args.stack.now in
    let right = subst (IsRight stack) c.in-Satisfied.is c.requires in
    λ h. c.opposites_refute.ensures stack.assertions h (interpretation c.in-Satisfied.model.entries.items) right.1

pub returns-in-Refuted-clause-right : goal.returns-in-Refuted-clause-right
returns-in-Refuted-clause-right c = subst (IsRight (seen c.args.stack.now)) c.in-Refuted.is c.requires

use Rattle.std.proofs.Common.{◌≡◌, true, false, map, refl, subst}
use Rattle.std.specs.Prelude.{◌↔◌, IfSome, IsSome}
use Rattle.cs_proof.specs.Answers.{Answers}
use Rattle.cs_proof.specs.Checking.{Finished}
use Rattle.cs_proof.specs.Fits.{seen}
use Rattle.cs_proof.specs.Views.{written}
use Rattle.cs_writable.specs.Writable.{AreWritable}
use Rattle.cs_opposites.specs.Opposites.{HasOpposites}
use Rattle.cs_decide.proofs.attempts.undecided.Goals as goal

pub returns-in-Some-clause-right : goal.returns-in-Some-clause-right
returns-in-Some-clause-right c =
    let stack = seen c.args.stack.now in
    let found = subst (λ o. IsSome o ↔ HasOpposites stack.assertions) c.in-Some.is c.in_ok-steps.ensures.found in (
      λ sorted. (
        subst (λ o. IfSome o (λ steps. Answers stack (map written steps.items) Finished)) c.in-Some.is (c.in_ok-steps.ensures.refutes sorted),
        subst (λ o. IfSome o (λ steps. AreWritable (map written steps.items))) c.in-Some.is (c.in_ok-steps.ensures.writable sorted),
        c.opposites_refute.ensures stack.assertions (found.0 refl),
      ),
      tt,
      tt,
    )

pub returns-in-None-clause-opposed : goal.returns-in-None-clause-opposed
returns-in-None-clause-opposed c = λ h. absurd (let e : false ≡ true = subst IsSome c.in-None.is (c.in_ok-steps.ensures.found.1 h) in cc)

-- What a finished certificate means.
use Rattle.std.specs.Prelude.{◌≡◌, List, map, Option, Some}
use Rattle.vx_terms.specs.Interpretations.{IsUnsatisfiable}
use Rattle.cs_certificate.specs.Certificate.{Stack, Step, IsFinished}
use Rattle.cs_proof.specs.Checking.{Finished}
use Rattle.cs_proof.specs.Answers.{Answers}

-- where the answer is that it is finished, it is
abbrev pub IsFinishedToo : Type 0
IsFinishedToo = (stack : Stack) (ws : List (Option Step)) → Answers stack ws Finished → (steps : List Step) × (ws ≡ map Some steps) × IsFinished stack steps

-- and the assertions are refuted
abbrev pub IsRefuted : Type 0
IsRefuted = (stack : Stack) (ws : List (Option Step)) → Answers stack ws Finished → IsUnsatisfiable stack.assertions

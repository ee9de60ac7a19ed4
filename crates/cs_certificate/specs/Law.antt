-- A finished certificate refutes.
use Rattle.std.specs.Prelude.{List}
use Rattle.vx_terms.specs.Interpretations.{IsUnsatisfiable}
use Rattle.vx_smt_meaning.specs.Commands.{Level, assertions_of}
use Rattle.cs_certificate.specs.Certificate.{Stack, Step, IsFinished, live}

abbrev pub Law : Type 0
Law = (stack : Stack) (steps : List Step) → IsFinished stack steps → IsUnsatisfiable stack.assertions

-- what is asserted on the live levels is refuted by a certificate that is finished over them
abbrev pub LiveLaw : Type 0
LiveLaw = (levels : List Level) (steps : List Step) → IsFinished (live levels) steps → IsUnsatisfiable (assertions_of levels)

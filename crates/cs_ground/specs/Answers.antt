-- When an answer over all clauses is right.
use Rattle.std.specs.Prelude.{map}
use Rattle.vx_terms.specs.Interpretations.{AllTrue}
use Rattle.cs_certificate.specs.Terms.{numbered}
use Rattle.cs_certificate.specs.Certificate.{Stack}
use Rattle.cs_classes.specs.Agreement.{HasNoNumber}
use Rattle.cs_ground.specs.Ground.{IsFormed}
use Rattle.cs_model.specs.Models.{interpretation}
use Rattle.cs_proof.specs.Answers.{Answers}
use Rattle.cs_proof.specs.Checking.{Finished}
use Rattle.cs_proof.specs.Views.{written}
use Rattle.cs_writable.specs.Writable.{AreWritable}
use Rattle.cs_ground.specs.declared.settled.Settled.{Settled}
use Rattle.cs_ground.specs.declared.settled.Settled.TheVariants.{Refuted, Satisfied}

-- the stack's assertions are writable Bool terms over the live symbols, without numbers
pub record IsPlain (stack : Stack) : Type 0 where
  pub formed : IsFormed stack
  pub no_number : HasNoNumber (numbered stack.assertions)

-- the checker finishes the steps, and they are writable, or the model makes the assertions true
abbrev pub IsSettled : Stack → Settled → Type 0
IsSettled stack (Refuted steps) = Answers stack (map written steps.items) Finished × AreWritable (map written steps.items)
IsSettled stack (Satisfied m) = AllTrue (interpretation m.entries.items) stack.assertions

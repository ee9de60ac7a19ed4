-- Where a derivation reaches an empty clause, its steps are finished and writable.
use Rattle.std.specs.Prelude.{[]}
use Rattle.cs_certificate.specs.Certificate.{Stack, Contains}
use Rattle.cs_proof.specs.Answers.{Answers}
use Rattle.cs_proof.specs.Checking.{Finished}
use Rattle.cs_writable.specs.Writable.{AreWritable}
use Rattle.cs_derivation.specs.Reached.{Reached, Stands, state_of}

-- the checker's answer to the steps that are written is that they are finished, and all of them are writable
abbrev pub Finishes : Type 0
Finishes = (stack : Stack) (r : Reached) → Stands stack r → Contains (state_of r).clauses [] → Answers stack r.steps Finished × AreWritable r.steps

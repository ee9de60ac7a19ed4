-- What a derivation has after a few steps.
use Rattle.std.specs.Prelude.{◌≡◌, ℕ, List, [], ◌∷◌, ◌++◌, length, Ok, Err, map}
use Rattle.std.specs.Global.{Vec}
use Rattle.std.specs.declared.result.Result.{Result}
use Rattle.cs_certificate.specs.Terms.{numbered}
use Rattle.cs_certificate.specs.Certificate.{Clause, Stack, State, Contains}
use Rattle.cs_table.specs.declared.steps.Stop.{Stop}
use Rattle.cs_table.specs.declared.steps.Stop.TheVariants.{Want}
use Rattle.cs_proof.specs.declared.step.Step.{Step}
use Rattle.cs_proof.specs.Answers.{Answers}
use Rattle.cs_proof.specs.Checking.{Finished}
use Rattle.cs_proof.specs.Views.{written}
use Rattle.cs_writable.specs.Writable.{AreWritable}
use Rattle.cs_derivation.specs.Reached.{Reached, Stands, state_of}

-- what was made is so, and nothing but memory was missed
abbrev pub IsMade : {X : Type 0} → (X → Type 0) → Result X Stop → Type 0
IsMade P (Ok x) = P x
IsMade P (Err e) = e ≡ Want

-- the terms of the assertions are numbered, and these are the clauses
abbrev pub with_clauses : Stack → List Clause → State
with_clauses stack cs = record { terms = numbered stack.assertions; clauses = cs }

-- the derivation has these clauses
pub record Has (stack : Stack) (cs : List Clause) (r : Reached) : Type 0 where
  pub stands : Stands stack r
  pub state : state_of r ≡ with_clauses stack cs

-- a clause more, which has this number
pub record Gains (stack : Stack) (cs : List Clause) (c : Clause) (r : Reached) (number : ℕ) : Type 0 where
  pub last : number ≡ length cs
  pub has : Has stack (cs ++ c ∷ []) r

-- it has the empty clause
pub record HasEmpty (stack : Stack) (r : Reached) : Type 0 where
  pub stands : Stands stack r
  pub empty : Contains (state_of r).clauses []

-- the checker finishes the steps, all of which are writable
abbrev pub AreFinished : Stack → Vec Step → Type 0
AreFinished stack steps = Answers stack (map written steps.items) Finished × AreWritable (map written steps.items)

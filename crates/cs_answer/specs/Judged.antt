-- What steps, a model, and an attempt that stopped are taken for.
use Rattle.std.specs.Prelude.{◌≡◌, ◌↔◌, ℕ, ◌≤◌, ◌&&◌, true, false, List, Option, Some, Ok, Err, IfSome, IsSome, map, ⊤}
use Rattle.std.specs.Global.{Vec}
use Rattle.std.specs.declared.result.Result.{Result}
use Rattle.vx_frac.specs.Fraction.{fraction}
use Rattle.vx_frac.specs.declared.Over.{Over as Call}
use Rattle.vx_terms.specs.Interpretations.{Each, AllTrue}
use Rattle.cs_meter.specs.Calls.{call_fits}
use Rattle.cs_certificate.specs.Certificate.{Stack}
use Rattle.cs_sums.specs.declared.stop.Stop.{Stop}
use Rattle.cs_sums.specs.declared.stop.Stop.TheVariants as stops
use Rattle.cs_farkas.specs.Sums as sums
use Rattle.cs_model.specs.declared.tables.Model.{Model}
use Rattle.cs_numbers.specs.Laws.{IsSorted}
use Rattle.cs_model.specs.Leaving.{LeavesAmong}
use Rattle.cs_model.specs.Models.{interpretation}
use Rattle.cs_proof.specs.declared.step.Step.{Step}
use Rattle.cs_proof.specs.Answers.{Answers}
use Rattle.cs_proof.specs.Checking.{Finished, NotEmpty, Over}
use Rattle.cs_proof.specs.Views.{written}
use Rattle.cs_writable.specs.Writable.{AreWritable}
use Rattle.cs_answer.specs.declared.answer.Answer.{Answer}
use Rattle.cs_answer.specs.declared.answer.Answer.TheVariants as answers
use Rattle.cs_answer.specs.declared.answer.Cause.{Cause}
use Rattle.cs_answer.specs.declared.answer.Cause.TheVariants as causes
use Rattle.cs_answer.specs.Deeds.{wanted, deeds}
use Rattle.cs_answer.specs.Causes.{is_nonlinear_at, has_number, has_large}

abbrev pub call_of : Call → sums.Over
call_of c = record { call = c.op; left = fraction c.a; right = fraction c.b }

-- a refutation by finished steps exactly where they are writable
abbrev pub IsByText : Vec Step → Result Answer Stop → Type 0
IsByText steps (Ok a) = (a ≡ answers.Refuted steps) × AreWritable (map written steps.items)
IsByText steps (Err stops.Miss) = AreWritable (map written steps.items) → ⊥
IsByText steps (Err (stops.Over c)) = ⊥
IsByText steps (Err stops.Budget) = ⊥
IsByText steps (Err stops.Want) = ⊤

-- a refutation exactly where the checker finishes the steps and they are writable, and a call exactly where it stops at one
abbrev pub IsByChecker : Stack → Vec Step → Result Answer Stop → Type 0
IsByChecker stack steps (Ok a) = (a ≡ answers.Refuted steps) × Answers stack (map written steps.items) Finished × AreWritable (map written steps.items)
IsByChecker stack steps (Err stops.Miss) = (Answers stack (map written steps.items) Finished → AreWritable (map written steps.items) → ⊥) × ((n : ℕ) (o : sums.Over) → Answers stack (map written steps.items) (Over n o) → ⊥)
IsByChecker stack steps (Err (stops.Over c)) = (n : ℕ) × Answers stack (map written steps.items) (Over n (call_of c))
IsByChecker stack steps (Err stops.Budget) = ⊥
IsByChecker stack steps (Err stops.Want) = ⊤

-- a model is one exactly where it makes the assertions true; one that doesn't has the misread term as its cause, if that is nonlinear; it isn't told where a
-- call that an assertion's value is made by leaves 128 bits
module _ (stack : Stack) (m : Model) (misread : Option ℕ) where
  abbrev pub IsModel : Type 0
  IsModel = AllTrue (interpretation m.entries.items) stack.assertions

  abbrev pub IsByModel : Result Answer Stop → Type 0
  IsByModel (Ok (answers.Satisfied n)) = (n ≡ m) × IsModel
  IsByModel (Ok (answers.Unknown cause)) = (IsModel → ⊥) × (n : ℕ) × (misread ≡ Some n) × (cause ≡ causes.Nonlinear n)
  IsByModel (Ok (answers.Refuted steps)) = ⊥
  IsByModel (Err stops.Miss) = (IsModel → ⊥) × IfSome misread (λ n. (is_nonlinear_at stack.assertions n && has_number stack.assertions) ≡ false)
  IsByModel (Err (stops.Over c)) = LeavesAmong (interpretation m.entries.items) c stack.assertions
  IsByModel (Err stops.Budget) = ⊥
  IsByModel (Err stops.Want) = ⊤

-- the steps show so many deeds, and the checker finds that all of them hold and that no clause is empty
abbrev pub ShowsWork : Stack → List Step → Type 0
ShowsWork stack steps = (wanted ≤ deeds steps) × Answers stack (map written steps) NotEmpty

-- an attempt that stopped has a cause exactly where its steps show so many deeds, or, where a call stopped it, there are numbers, a literal is large and the call leaves 128 bits
abbrev pub IsByStop : Stack → List Step → Stop → Option Cause → Type 0
IsByStop stack steps stops.Budget found = Each IsSorted stack.assertions → IsSome found ↔ ShowsWork stack steps
IsByStop stack steps stops.Miss found = Each IsSorted stack.assertions → IsSome found ↔ ShowsWork stack steps
IsByStop stack steps (stops.Over c) found = IsSome found ↔ ((has_number stack.assertions ≡ true) × (has_large stack.assertions ≡ true) × (call_fits c.op (fraction c.a) (fraction c.b) ≡ false))
IsByStop stack steps stops.Want found = ⊥

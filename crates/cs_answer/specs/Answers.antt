-- When an answer is right.
use Rattle.std.specs.Prelude.{map, ⊤}
use Rattle.vx_terms.specs.Interpretations.{Each, AllTrue, IsUnsatisfiable}
use Rattle.cs_certificate.specs.Certificate.{Stack}
use Rattle.cs_numbers.specs.Laws.{IsSorted}
use Rattle.cs_proof.specs.Answers.{Answers}
use Rattle.cs_proof.specs.Checking.{Finished}
use Rattle.cs_proof.specs.Views.{written}
use Rattle.cs_writable.specs.Writable.{AreWritable}
use Rattle.cs_model.specs.Models.{interpretation}
use Rattle.cs_answer.specs.declared.answer.Answer.{Answer}
use Rattle.cs_answer.specs.declared.answer.Answer.TheVariants as answers
use Rattle.cs_answer.specs.Causes.{IsCause}

-- where it refutes: the checker finishes the steps, all of which are writable, and the assertions are true in no interpretation
abbrev pub IsRefutation : Stack → Answer → Type 0
IsRefutation stack (answers.Refuted steps) = Answers stack (map written steps.items) Finished × AreWritable (map written steps.items) × IsUnsatisfiable stack.assertions
IsRefutation stack (answers.Satisfied m) = ⊤
IsRefutation stack (answers.Unknown cause) = ⊤

-- where it is satisfied: the model makes the assertions true
abbrev pub IsSatisfaction : Stack → Answer → Type 0
IsSatisfaction stack (answers.Refuted steps) = ⊤
IsSatisfaction stack (answers.Satisfied m) = AllTrue (interpretation m.entries.items) stack.assertions
IsSatisfaction stack (answers.Unknown cause) = ⊤

-- where it is undecided: its cause is so
abbrev pub IsCaused : Stack → Answer → Type 0
IsCaused stack (answers.Refuted steps) = ⊤
IsCaused stack (answers.Satisfied m) = ⊤
IsCaused stack (answers.Unknown cause) = IsCause stack cause

-- the three; a refutation is one of well-sorted assertions
abbrev pub IsRight : Stack → Answer → Type 0
IsRight stack a = (Each IsSorted stack.assertions → IsRefutation stack a) × IsSatisfaction stack a × IsCaused stack a

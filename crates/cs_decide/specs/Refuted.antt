-- An answer that refutes.
use Rattle.std.specs.Prelude.{⊤}
use Rattle.cs_answer.specs.declared.answer.Answer.{Answer}
use Rattle.cs_answer.specs.declared.answer.Answer.TheVariants as answers

-- unsat
abbrev pub IsRefuted : Answer → Type 0
IsRefuted (answers.Refuted steps) = ⊤
IsRefuted (answers.Satisfied m) = ⊥
IsRefuted (answers.Unknown cause) = ⊥

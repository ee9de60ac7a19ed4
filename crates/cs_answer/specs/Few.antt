-- Stacks that are always decided: without numbers, and with few Bool terms.
use Rattle.std.specs.Prelude.{⊤, ℕ, ◌≤◌, Bool, List}
use Rattle.std.specs.List.{count_by}
use Rattle.vx_terms.specs.Sorts.{BoolSort, same_sort}
use Rattle.vx_terms.specs.Terms.{Term, sort_of}
use Rattle.cs_certificate.specs.Terms.{numbered}
use Rattle.cs_certificate.specs.Certificate.{Stack}
use Rattle.cs_ground.specs.Answers.{IsPlain}
use Rattle.cs_answer.specs.declared.answer.Answer.{Answer}
use Rattle.cs_answer.specs.declared.answer.Answer.TheVariants as answers

-- at most so many terms are Bool
abbrev pub few_limit : ℕ
few_limit = 10

abbrev pub is_bool : Term → Bool
is_bool t = same_sort (sort_of t) BoolSort

-- how many of the terms are Bool
abbrev pub bool_count : List Term → ℕ
bool_count terms = count_by is_bool terms

-- writable Bool assertions over the live symbols, without numbers, and few of their terms are Bool
pub record IsFew (stack : Stack) : Type 0 where
  pub plain : IsPlain stack
  pub few : bool_count (numbered stack.assertions) ≤ few_limit

-- sat or unsat
abbrev pub IsDecided : Answer → Type 0
IsDecided (answers.Refuted steps) = ⊤
IsDecided (answers.Satisfied m) = ⊤
IsDecided (answers.Unknown cause) = ⊥

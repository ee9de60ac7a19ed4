-- What an attempt leads to.
use Rattle.std.specs.Prelude.{⊤}
use Rattle.cs_certificate.specs.Certificate.{Stack}
use Rattle.cs_answer.specs.Answers.{IsRight}
use Rattle.cs_decide.specs.declared.attempts.Tried.{Tried}
use Rattle.cs_decide.specs.declared.attempts.Tried.TheVariants as tried

-- an answer is right
abbrev pub IsRightlyTried : Stack → Tried → Type 0
IsRightlyTried stack (tried.Answered a) = IsRight stack a
IsRightlyTried stack tried.Spent = ⊤
IsRightlyTried stack tried.Missed = ⊤

-- Assertions over which a check is never undecided.
use Rattle.std.specs.Prelude.{ℕ, ◌≤◌, List}
use Rattle.vx_smt_meaning.specs.Commands.{assertions_of}
use Rattle.cs_certificate.specs.Terms.{numbered}
use Rattle.cs_certificate.specs.Certificate.{Stack}
use Rattle.cs_classes.specs.Agreement.{HasNoNumber}
use Rattle.cs_answer.specs.Few.{few_limit, bool_count}
use Rattle.cs_opposites.specs.Opposites.{HasOpposites}
use Rattle.cs_session.specs.declared.reply.Reply.TheVariants.{Undecided}
use Rattle.cs_session.specs.Views.{State, standing}
use Rattle.cs_session.specs.Replies.{Replies}
use Rattle.cs_session.specs.Kept.{IsReached}

-- no term of the assertions is an Int or a Real, and few are Bool
pub record HasFew (stack : Stack) : Type 0 where
  pub no_number : HasNoNumber (numbered stack.assertions)
  pub few : bool_count (numbered stack.assertions) ≤ few_limit

-- over such assertions nothing is answered by `unknown`, in each session that comes about by answers
abbrev pub FewAreDecided : Type 0
FewAreDecided = (bytes : List ℕ) (s u : State) → IsReached s → HasFew (standing s.levels) → Replies bytes s Undecided u → ⊥

-- nor is it over `false`, or a term and its negation, in any session
abbrev pub OppositesAreRefuted : Type 0
OppositesAreRefuted = (bytes : List ℕ) (s u : State) → HasOpposites (assertions_of s.levels) → Replies bytes s Undecided u → ⊥

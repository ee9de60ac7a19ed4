-- What a session has answered of the bytes that it was given.
use Rattle.std.specs.Prelude.{◌≡◌, ℕ, ◌≤◌, List, [], ◌∷◌, ◌++◌, length, drop}
use Rattle.std.specs.Option.{option_to_list}
use Rattle.vx_sexp.specs.declared.token.Token.{Token}
use Rattle.vx_sexp.specs.First.{IsFirst}
use Rattle.vx_smt_meaning.specs.Commands.{empty_level}
use Rattle.cs_answer.specs.declared.answer.Cause.{Cause}
use Rattle.cs_session.specs.declared.reply.Reply.{Reply}
use Rattle.cs_session.specs.declared.reply.Reply.TheVariants.{Undecided}
use Rattle.cs_session.specs.declared.session.Last.TheVariants.{Nothing}
use Rattle.cs_session.specs.Views.{State, cause_of}
use Rattle.cs_session.specs.Texts.{reply_text}
use Rattle.cs_session.specs.Replies.{Replies}

-- nothing is declared, and nothing was checked
abbrev pub start : State
start = record { levels = empty_level ∷ []; last = Nothing }

-- the first s-expression takes so many bytes, with what stands before it, at any depth
abbrev pub EndsAt : ℕ → List ℕ → Type 0
EndsAt n bytes = (n ≤ length bytes) × (tokens : List Token) × IsFirst bytes tokens (drop n bytes)

-- why a reply is undecided, where it is: the cause that the state after it keeps
abbrev pub told_cause : Reply → State → List Cause
told_cause Undecided u = option_to_list (cause_of u.last)
told_cause r u = []

-- The law of causes: each undecided answer has one.
abbrev pub UndecidedHasItsCause : Type 0
UndecidedHasItsCause = (bytes : List ℕ) (s u : State) → Replies bytes s Undecided u → (cause : Cause) × (told_cause Undecided u ≡ cause ∷ [])

-- How far a session is: the bytes that it was given, the text of its answers, the bytes that are left, the causes of its
-- undecided answers in order, and its state. Each answer is to the first s-expression of what was left then.
pub data Answering : List ℕ → List ℕ → List ℕ → List Cause → State → Type 0 where
  begun : Answering [] [] [] [] start
  given : {all text left : List ℕ} {causes : List Cause} {s : State} (piece : List ℕ) →
      Answering all text left causes s → Answering (all ++ piece) text (left ++ piece) causes s
  answered : {all text left : List ℕ} {causes : List Cause} {s u : State} (n : ℕ) (r : Reply) →
      Answering all text left causes s → EndsAt n left → Replies left s r u → Answering all (text ++ reply_text r) (drop n left) (causes ++ told_cause r u) u

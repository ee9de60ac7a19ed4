-- What a session answers to `get-proof`, of the steps that it kept.
use Rattle.std.specs.Prelude.{◌≡◌, List, [], ◌∷◌, ◌++◌, map, Some, ℕ}
use Rattle.std.specs.Global.{Vec}
use Rattle.cs_certificate.specs.Certificate.{Step, IsFinished}
use Rattle.cs_answer.specs.declared.answer.Cause.{Cause}
use Rattle.cs_proof.specs.declared.step.Step.{Step as Step'}
use Rattle.cs_proof.specs.Views.{written}
use Rattle.cs_text.specs.Text.{certificate_text}
use Rattle.cs_text.specs.Law.{IsReadBack}
use Rattle.cs_session.specs.declared.reply.Reply.{Reply}
use Rattle.cs_session.specs.declared.reply.Reply.TheVariants.{Proof}
use Rattle.cs_session.specs.declared.session.Last.{Last}
use Rattle.cs_session.specs.declared.session.Last.TheVariants.{Refuted}
use Rattle.cs_session.specs.Views.{State, standing}
use Rattle.cs_session.specs.Replies.{Proves}
use Rattle.cs_session.specs.Answering.{Answering}

-- a session comes to this state by what it answers
pub record IsReached (s : State) : Type 0 where
  pub all : List ℕ
  pub text : List ℕ
  pub left : List ℕ
  pub causes : List Cause
  pub answering : Answering all text left causes s

-- these steps are kept of the last unsat
pub record Keeps (s : State) (ws : List Step) : Type 0 where
  pub steps : Vec Step'
  pub last : s.last ≡ Refuted steps
  pub are : map written steps.items ≡ map Some ws

abbrev pub proof_line : List Step → List ℕ
proof_line ws = certificate_text (map Some ws) ++ 10 ∷ []

-- the line is the text of the steps that are kept: the checker has finished them, and they are read back as they are, over what
-- is declared
pub record IsProof (s : State) (line : List ℕ) : Type 0 where
  pub ws : List Step
  pub kept : Keeps s ws
  pub is_line : line ≡ proof_line ws
  pub finished : ∥ IsFinished (standing s.levels) ws ∥₁
  pub read_back : ∥ IsReadBack (standing s.levels) ws (certificate_text (map Some ws)) ∥₁

-- each line that `get-proof` is answered by is such a proof
abbrev pub ShownIsReadBack : Type 0
ShownIsReadBack = (s : State) (line : List ℕ) → IsReached s → Proves s.last (Proof line) → IsProof s line

-- it may be answered so, and by nothing else
abbrev pub IsAnsweredBy : Last → Reply → Type 0
IsAnsweredBy l r = ∥ Proves l r ∥₁ × ((q : Reply) → Proves l q → q ≡ r)

-- and behind each unsat it is answered by such a proof, the line of the steps that were kept
abbrev pub KeptIsShown : Type 0
KeptIsShown = (s : State) (steps : Vec Step') → IsReached s → s.last ≡ Refuted steps → (line : List ℕ) × IsProof s line × IsAnsweredBy s.last (Proof line)

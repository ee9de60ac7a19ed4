-- What the companion's link has answered.
use Rattle.std.specs.Prelude.{◌≡◌, ◌≤◌, ⊤, true, ℕ, ◌+◌, List, [], ◌∷◌, ◌++◌}
use Rattle.vx_sexp.specs.Finished.{finished, is_closed}
use Rattle.vx_ends.specs.declared.piece.Piece.{Piece}
use Rattle.vx_ends.specs.declared.piece.Ending.{Ending}
use Rattle.vx_ends.specs.Dialogue.{sent, got}
use Rattle.cs_answer.specs.declared.answer.Cause.{Cause}
use Rattle.cs_session.specs.Views.{State}
use Rattle.cs_session.specs.Answering.{Answering}

-- one whole expression
abbrev pub IsOneReply : List ℕ → Type 0
IsOneReply text = (finished text ≡ 1) × (is_closed text ≡ true)

-- Whatever is sent besides, the replies and what is not read yet make up for all the commands; and the replies are whole.
abbrev pub KeepsUp : (all unread replies : List ℕ) → Type 0
KeepsUp all unread replies = ((more : List ℕ) → finished (all ++ more) ≤ finished replies + finished (unread ++ more)) × (is_closed replies ≡ true)

-- What was got, with these replies behind it, is what a session answered to all that was sent, up to this state; these are the causes of its undecided
-- answers; this is left, and no command in it.
pub record HasReplied (pieces : List Piece) (replies left : List ℕ) (causes : List Cause) (s : State) : Type 0 where
  pub answering : Answering (sent pieces) (got pieces ++ replies) left causes s
  pub none_left : finished left ≡ 0

-- So it is with some replies that were not got.
pub record IsByCompanion (pieces : List Piece) (causes : List Cause) : Type 0 where
  pub ungot : List ℕ
  pub left : List ℕ
  pub state : State
  pub replied : HasReplied pieces ungot left causes state

abbrev pub RepliesByCompanion : List Piece → List Cause → Type 0
RepliesByCompanion pieces causes = ∥ IsByCompanion pieces causes ∥₁

-- so it is with each of these links, and with its causes beside it
abbrev pub AllByCompanion : List Ending → List (List Cause) → Type 0
AllByCompanion [] [] = ⊤
AllByCompanion (e ∷ ended) (own ∷ causes) = RepliesByCompanion e.dialogue own × AllByCompanion ended causes
AllByCompanion ended causes = ⊥

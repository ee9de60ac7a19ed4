-- There is one reply to each command, since each is one whole expression.
use Rattle.std.proofs.Common.{◌≡◌, ℕ, zero, suc, ◌<◌, ◌≤◌, List, [], ◌++◌, ◌∷◌, length, drop, ap, ◌∙◌, sym, append_assoc, arith}
use Rattle.std.proofs.lemmas.List.{length-drop}
use Rattle.vx_ends.specs.declared.piece.Piece.{Piece}
use Rattle.vx_ends.specs.declared.piece.Piece.TheVariants.{Got}
use Rattle.vx_ends.specs.Dialogue.{sent, got}
use Rattle.vx_ends.proofs.Dialogues.{got_by_got}
use Rattle.vx_sexp.specs.declared.token.Token.{Token}
use Rattle.vx_sexp.specs.First.{IsFirst}
use Rattle.vx_sexp.proofs.Counts.{joined_finished, joined_closed, none_closed}
use Rattle.vx_dialogue.proofs.Joined.{append_none, first_longer}
use Rattle.vx_dialogue.proofs.Counts.{finished_first}
use Rattle.vx_sexp.specs.Finished.{finished}
use Rattle.cs_answer.specs.declared.answer.Cause.{Cause}
use Rattle.cs_session.specs.Views.{State}
use Rattle.vx_companion.specs.Companion.{IsOneReply, KeepsUp, HasReplied, IsByCompanion}

-- ---- what is answered

pub none_kept : KeepsUp [] [] []
none_kept = (λ more. omega arith, none_closed)

-- more is sent
pub answered_on : (all unread replies piece : List ℕ) → KeepsUp all unread replies → KeepsUp (all ++ piece) (unread ++ piece) replies
answered_on all unread replies piece h = (
  λ more.
      let these = h.0 (piece ++ more) in
      let left = ap finished (append_assoc all piece more) in
      let right = ap finished (append_assoc unread piece more) in
      omega arith,
  h.1,
)

-- one command is read and replied to
pub answered_one : (all rest less replies reply : List ℕ) (tokens : List Token) → IsFirst rest tokens less → IsOneReply reply → KeepsUp all rest replies → KeepsUp all less (replies ++ reply)
answered_one all rest less replies reply tokens first one h = (
  λ more.
      let these = h.0 more in
      let joined = joined_finished replies reply h.1 in
      let single = one.0 in
      let longer = first_longer rest more tokens less first in
      let read = finished_first (rest ++ more) tokens (less ++ more) longer.lexed longer.one in
      omega arith,
  joined_closed replies reply h.1 one.1,
)

-- as many replies as commands
pub replies_all : (all unread replies : List ℕ) → finished unread ≡ 0 → KeepsUp all unread replies → finished all ≤ finished replies
replies_all all unread replies none h =
    let these = h.0 [] in
    let left = ap finished (append_none all) in
    let right = ap finished (append_none unread) in
    omega arith

-- a first expression is not empty
pub shorter : (bytes : List ℕ) (n : ℕ) (tokens : List Token) → n ≤ length bytes → IsFirst bytes tokens (drop n bytes) → length (drop n bytes) < length bytes
shorter bytes zero tokens within first = let h = finished_first bytes tokens bytes first.lexed first.one in absurd (omega arith)
shorter bytes (suc n) tokens within first = omega (arith, length-drop (suc n) bytes)

-- ---- the record beside what waits

pub after_got : (old new : List Piece) (replies front back : List ℕ) → new ≡ old ++ Got front ∷ [] → replies ≡ front ++ back → got new ++ back ≡ got old ++ replies
after_got old new replies front back is replies_are =
    ap (λ x. x ++ back) (got_by_got old new front is) ∙ (append_assoc (got old) front back ∙ ap (λ x. got old ++ x) (sym replies_are))

pub by_companion : {pieces : List Piece} {replies left : List ℕ} {causes : List Cause} {s : State} → HasReplied pieces replies left causes s → IsByCompanion pieces causes
by_companion {replies = replies} {left = left} {s = s} h = record { ungot = replies; left = left; state = s; replied = h }

-- the same replies, of which more were got
pub replied_on : (old new : List Piece) (replies rest left : List ℕ) (causes : List Cause) (s : State) → sent new ≡ sent old → got new ++ rest ≡ got old ++ replies → HasReplied old replies left causes s → HasReplied new rest left causes s
replied_on old new replies rest left causes s sent_same same h = record { answering = rw (sent_same, same) h.answering; none_left = h.none_left }

-- Why a dialogue stops: what was got next is no lawful reply to the command sent that it answers.
use Rattle.std.specs.Prelude.{◌≡◌, ℕ, ◌<◌, List, [], ◌∷◌, ◌++◌}
use Rattle.vx_ends.specs.declared.piece.Piece.{Piece}
use Rattle.vx_ends.specs.Dialogue.{sent, got}
use Rattle.vx_sexp.specs.declared.token.Token.{Token}
use Rattle.vx_smt_meaning.specs.Commands.{Command, CheckSat, GetProof}
use Rattle.vx_smt_meaning.specs.Names.{AreCommands}
use Rattle.vx_smt_meaning.specs.Dialogues.{Answers}
use Rattle.vx_smt_text.specs.Text.{commands_text}
use Rattle.vx_dialogue.specs.declared.item.Wanted.{Wanted}
use Rattle.vx_dialogue.specs.declared.item.Wanted.TheVariants as wanted
use Rattle.vx_dialogue.specs.declared.talk.Talk.{Talk}
use Rattle.vx_dialogue.specs.declared.talk.Talk.TheVariants as talk
use Rattle.vx_dialogue.specs.Items.{ShortItems, IsGarbled, IsRefused, GivesNoReply}
use Rattle.vx_dialogue.specs.Hears.{ReadsSuccesses}

-- the reply that a command wants
abbrev pub wanted_by : Command → Wanted
wanted_by CheckSat = wanted.Answer
wanted_by GetProof = wanted.Proof
wanted_by c = wanted.Success

-- What was sent begins with the text of some commands and of one more, whose names are spelled. The first items of what was got answer the former lawfully; what follows them is told of the last one.
pub record Stops (pieces : List Piece) (Told : Wanted → List ℕ → Type 0) : Type 0 where
  pub before : List Command
  pub command : Command
  pub sent_later : List ℕ
  pub items : List (List Token)
  pub next : List ℕ
  pub spelled : AreCommands (before ++ command ∷ [])
  pub sent_is : sent pieces ≡ commands_text (before ++ command ∷ []) ++ sent_later
  pub heard : ShortItems (got pieces) items next
  pub lawful : Answers before items
  pub told : Told (wanted_by command) next

-- What was sent and got explains why a call gave no reply.
abbrev pub Explains : Talk → List Piece → Type 0
Explains (talk.Garbled kept) pieces = Stops pieces (λ w bytes. IsGarbled w bytes kept)
Explains (talk.Refused kept) pieces = Stops pieces (λ w bytes. IsRefused bytes kept)
Explains talk.Pipe pieces = Unit {0}
Explains talk.Want pieces = Unit {0}
Explains talk.Closed pieces = Unit {0}

-- Some successes are read, fewer than so many, and then no lawful reply is.
abbrev pub FailsAfter : Talk → ℕ → List ℕ → List ℕ → List ℕ → Type 0
FailsAfter t n got_old unread_old got_new = (i : ℕ) × (i < n) × (got_then : List ℕ) × (unread_then : List ℕ)
    × ReadsSuccesses i got_old unread_old got_then unread_then × GivesNoReply t wanted.Success got_then unread_then got_new

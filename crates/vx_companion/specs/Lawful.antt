-- That the companion refuses no command that it takes.
use Rattle.std.specs.Prelude.{⊤, ℕ, ◌≤◌, Bool, List}
use Rattle.vx_terms.specs.Interpretations.{Each}
use Rattle.vx_sexp.specs.First.{deepest}
use Rattle.vx_smt_meaning.specs.Commands.{Command, Assert, Push, GetProof}
use Rattle.vx_smt_meaning.specs.Dialogues.{Check}
use Rattle.vx_smt_meaning.specs.WellFormed.{IsWellFormed}
use Rattle.vx_smt_meaning.specs.Words.{command_tokens}
use Rattle.vx_smt_text.specs.Shaped.{IsShaped}
use Rattle.vx_ends.specs.declared.piece.Piece.{Piece}
use Rattle.vx_dialogue.specs.Items.{IsGarbled, IsRefused}
use Rattle.vx_dialogue.specs.Stops.{Stops}
use Rattle.vx_dialogue.specs.History.{Tells}
use Rattle.cs_answer.specs.declared.answer.Cause.{Cause}
use Rattle.vx_companion.specs.Companion.{RepliesByCompanion}
use Rattle.vx_companion.specs.Right.{IsSorted}

-- It takes assertions of at most 4096 lists within one another, which can be read back. That the numbers of symbols fit their types, the record of a link tells by itself.
abbrev pub IsTaken : Command → Type 0
IsTaken (Assert t) = IsShaped t × (deepest 0 (command_tokens (Assert t)) ≤ 4096)
IsTaken c = ⊤

-- at most 256 levels are opened at once, and no proof is asked for
abbrev pub Fits : Command → Type 0
Fits (Push n) = n ≤ 256
Fits GetProof = ⊥
Fits c = ⊤

-- no reply in the record of a link is garbled, and none a refusal
abbrev pub HasLawfulReplies : List Piece → Type 0
HasLawfulReplies pieces = (kept : List ℕ) → (Stops pieces (λ w bytes. IsGarbled w bytes kept) → ⊥) × (Stops pieces (λ w bytes. IsRefused bytes kept) → ⊥)

-- The law of its replies: where it takes each command of a script, none is garbled, and none a refusal.
abbrev pub CompanionIsLawful : Type 0
CompanionIsLawful = (failed : Bool) (script : List Command) (pieces : List Piece) (causes : List Cause) (checks : List Check) → IsWellFormed script → Each IsSorted script → Each IsTaken script
    → Each Fits script → Tells failed script pieces checks → RepliesByCompanion pieces causes → HasLawfulReplies pieces

-- That each unsat and each sat of the companion is right.
use Rattle.std.specs.Prelude.{◌≡◌, ⊤, ℕ, Bool, List, Some}
use Rattle.vx_terms.specs.Sorts.{BoolSort}
use Rattle.vx_terms.specs.Formed.{Formed}
use Rattle.vx_terms.specs.Interpretations.{Each, IsSatisfiable, IsUnsatisfiable}
use Rattle.vx_smt_meaning.specs.Commands.{Command, DeclareFun, Assert}
use Rattle.vx_smt_meaning.specs.Dialogues.{Check}
use Rattle.vx_smt_meaning.specs.WellFormed.{IsWellFormed}
use Rattle.vx_smt_meaning.specs.declared.reply.Reply.TheVariants.{Unsat, Sat}
use Rattle.vx_ends.specs.declared.piece.Piece.{Piece}
use Rattle.vx_dialogue.specs.History.{Tells}
use Rattle.cs_commands.specs.Laws.{IsPlain}
use Rattle.cs_answer.specs.declared.answer.Cause.{Cause}
use Rattle.vx_companion.specs.Companion.{RepliesByCompanion}

-- An assertion is well-sorted; a sort isn't one of SMT-LIB's own, and so many levels are told by 32 bits. Numbers and names may be as they like.
abbrev pub IsSorted : Command → Type 0
IsSorted (Assert t) = (n : ℕ) × Formed n t BoolSort
IsSorted (DeclareFun d) = ⊤
IsSorted c = IsPlain c

-- an unsat is right where no interpretation makes all true that was asserted, and a sat where some interpretation does
pub record IsRight (c : Check) : Type 0 where
  pub unsat : c.reply ≡ Some Unsat → IsUnsatisfiable c.assertions
  pub sat : c.reply ≡ Some Sat → ∥ IsSatisfiable c.assertions ∥₁

-- The law of its replies: where a script is well formed and what it asserts well-sorted, each unsat and each sat that a record of it tells is right.
abbrev pub CompanionIsRight : Type 0
CompanionIsRight = (failed : Bool) (script : List Command) (pieces : List Piece) (causes : List Cause) (checks : List Check) → IsWellFormed script → Each IsSorted script
    → Tells failed script pieces checks → RepliesByCompanion pieces causes → Each IsRight checks

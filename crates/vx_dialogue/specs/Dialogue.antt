-- What a dialogue says, hears and has checked.
use Rattle.std.specs.Prelude.{◌≡◌, ℕ, ◌≤◌, Bool, false, List, [], ◌∷◌, ◌++◌, length, Some, None, Result, Err, IsSome}
use Rattle.std.specs.declared.rc.Rc.{Rc}
use Rattle.std.specs.declared.alloc.Global.{Global}
use Rattle.vx_ends.specs.declared.piece.Piece.{Piece}
use Rattle.vx_ends.specs.Dialogue.{sent, got}
use Rattle.vx_sexp.specs.declared.token.Token.{Token}
use Rattle.vx_terms.specs.Terms.{Term}
use Rattle.vx_terms.specs.Build.{negate}
use Rattle.vx_terms.specs.declared.term.Term.{Term as Term'}
use Rattle.vx_terms.specs.Views.{term}
use Rattle.vx_terms.specs.Interpretations.{Each}
use Rattle.vx_smt_meaning.specs.Commands.{Command, Declared, CheckSat, Level, empty_level, stack_of, assertions_of, declared_in}
use Rattle.vx_smt_meaning.specs.Dialogues.{ArePlain, Answers, Check, checks_told}
use Rattle.vx_smt_meaning.specs.declared.reply.Reply.{Reply}
use Rattle.vx_smt_text.specs.Text.{commands_text}
use Rattle.vx_smt_text.specs.Small.{IsSmallCommand}
use Rattle.vx_dialogue.specs.Items.{ShortItems}
use Rattle.vx_dialogue.specs.Pace.{KeepsPace}
use Rattle.vx_segments.specs.Segments.{Entry}
use Rattle.vx_dialogue.specs.Preamble.{preamble}
use Rattle.vx_dialogue.specs.Symbols.{symbols_of}
use Rattle.vx_dialogue.specs.Scripts.{Scope, Outside, ScopedTurn, Posts, script, scope_from}
use Rattle.vx_dialogue.specs.Places.{scope, IsReady}
use Rattle.vx_dialogue.specs.declared.talk.Talk.{Talk}
use Rattle.vx_dialogue.specs.declared.dialogue.Dialogue.{Dialogue}

-- a list put on another, the last of it at the top
abbrev pub pushed : {A : Type 0} → List A → List A → List A
pushed [] ys = ys
pushed (x ∷ xs) ys = pushed xs (x ∷ ys)

-- the term behind a shared pointer
abbrev pub shared : Rc Term' Global → Term
shared r = term r.value

abbrev pub scope_of : {L : Type 0} → Dialogue L → Scope
scope_of d = scope d.levels

abbrev pub link_of : {L : Type 0} → Dialogue L → L
link_of d = d.link

-- an earlier call failed
abbrev pub has_failed : {L : Type 0} → Dialogue L → Bool
has_failed d = d.failed

-- no question is open, unless an earlier call failed; nothing is gathered then
abbrev pub IsFree : {L : Type 0} → Dialogue L → Type 0
IsFree d = d.failed ≡ false → (d.owed ≡ None) × (d.count ≡ 0) × IsReady d.levels

-- a question is open, unless an earlier call failed
abbrev pub IsAsked : {L : Type 0} → Dialogue L → Type 0
IsAsked d = d.failed ≡ false → IsSome d.owed × (d.count ≡ 0) × IsReady d.levels

-- The commands said so far, of which those that were sent are answered; the others are gathered, at most 256, and no more ever waited for their replies. Their numbers fit their types.
-- These are the checks among them.
pub record Gathers {L : Type 0} (dialogue : L → List Piece) (d : Dialogue L) (commands : List Command) (checks : List Check) : Type 0 where
  pub answered : List Command
  pub gathered : List Command
  pub items : List (List Token)
  pub all : commands ≡ answered ++ gathered
  pub sent_is : sent (dialogue d.link) ≡ commands_text answered
  pub batch_is : d.batch.items ≡ commands_text gathered
  pub count_is : d.count ≡ length gathered
  pub few : length gathered ≤ 256
  pub pace : KeepsPace commands (dialogue d.link)
  pub small : Each IsSmallCommand commands
  pub plain : ArePlain gathered
  pub got_is : ShortItems (got (dialogue d.link)) items d.unread.items
  pub lawful : Answers answered items
  pub checks_are : checks ≡ checks_told (empty_level ∷ []) answered items

-- The commands said so far, of which a check-sat was sent last; those behind the answered ones wait for so many successes and then an answer.
pub record Waits {L : Type 0} (dialogue : L → List Piece) (d : Dialogue L) (commands : List Command) (checks : List Check) : Type 0 where
  pub answered : List Command
  pub waiting : List Command
  pub items : List (List Token)
  pub all : commands ≡ (answered ++ waiting) ++ CheckSat ∷ []
  pub sent_is : sent (dialogue d.link) ≡ commands_text commands
  pub batch_is : d.batch.items ≡ []
  pub count_is : d.count ≡ 0
  pub owed_is : d.owed ≡ Some (length waiting)
  pub pace : KeepsPace commands (dialogue d.link)
  pub small : Each IsSmallCommand commands
  pub plain : ArePlain waiting
  pub got_is : ShortItems (got (dialogue d.link)) items d.unread.items
  pub lawful : Answers answered items
  pub checks_are : checks ≡ checks_told (empty_level ∷ []) answered items

-- the check of a question: its path and its negated condition are asserted, and no more; its symbols are declared, and those of the preamble
abbrev pub check_of : List Level → List Term → Term → Reply → Check
check_of base path condition reply = record {
  symbols = pushed (symbols_of path (negate condition)) [] ++ declared_in base;
  assertions = negate condition ∷ pushed path [];
  reply = Some reply;
}

-- the check whose reply is this
abbrev pub told_check : List Level → Reply → Check
told_check levels reply = record { symbols = declared_in levels; assertions = assertions_of levels; reply = Some reply }

-- the levels of the preamble
abbrev pub base_of : Bool → List Declared → List Level
base_of certify functions = stack_of (preamble certify functions)

-- No question is open: the commands said so far are exactly those of these turns, and these are their checks.
pub record Stands {L : Type 0} (dialogue : L → List Piece) (certify : Bool) (functions : List Declared) (turns : List ScopedTurn) (d : Dialogue L) (checks : List Check) : Type 0 where
  pub told : Gathers dialogue d (script certify functions turns) checks
  pub scope : scope_of d ≡ scope_from Outside turns

-- The reply to this question is awaited, behind these turns.
pub record Awaits {L : Type 0} (dialogue : L → List Piece) (certify : Bool) (functions : List Declared) (turns : List ScopedTurn) (path : List Entry) (condition : Term) (d : Dialogue L)
    (checks : List Check) : Type 0 where
  pub told : Waits dialogue d (script certify functions (turns ++ Posts path condition ∷ [])) checks
  pub scope : scope_of d ≡ scope_from Outside (turns ++ Posts path condition ∷ [])

-- an answer with this error
abbrev pub gives : Talk → Result ℕ Talk
gives talk = Err talk

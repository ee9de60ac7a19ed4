-- What a dialogue says, turn by turn, where each assertion is sent once while it stays live.
use Rattle.std.specs.Prelude.{ℕ, suc, ◌+◌, Bool, List, [], ◌∷◌, ◌++◌, drop, take, Option, Some, None}
use Rattle.vx_terms.specs.Terms.{Term}
use Rattle.vx_terms.specs.Build.{negate}
use Rattle.vx_smt_meaning.specs.Commands.{Command, Declared, Assert, Push, CheckSat}
use Rattle.vx_dialogue.specs.Symbols.{with_listed}
use Rattle.vx_segments.specs.Segments.{Entry, terms}
use Rattle.vx_dialogue.specs.Preamble.{declarations, preamble}
use Rattle.vx_dialogue.specs.Turns as turns
use Rattle.vx_dialogue.specs.Turns.{Turn}
use Rattle.vx_dialogue.specs.Segments.{last_of, missing, sent, depth, pops}
use Rattle.vx_dialogue.specs.Kept.{kept}

-- Where a dialogue stands between questions. Outside: no level is open but those below all members. Inside: above these the member's own level is open, then those of this path, the last question's,
-- and then that question's own. Left: the same levels are open, but the member is over.
pub data Scope : Type 0 where
  Outside : Scope
  Inside : List Entry → Scope
  Left : List Entry → Scope

-- the member's own level, and the levels of its path; the first segment, number 0, stands on the member's own
abbrev pub from_outside : List Entry → List Command
from_outside new = Push 1 ∷ sent 0 [] new

-- what closes the last question's own level, those of its path, and the member's own
abbrev pub all_pops : List Entry → List Command
all_pops old = pops (suc (depth 0 old + 1))

-- From the last question to the next path, where so many entries of the old path stay: that question's own level and those above these entries are closed, and the new path is said from there on.
abbrev pub onto : List Entry → List Entry → Option ℕ → List Command
onto old new None = all_pops old ++ from_outside new
onto old new (Some k) = pops (suc (depth (last_of 0 (take k old)) (drop k old))) ++ sent (last_of 0 (take k old)) (with_listed [] (terms (take k old))) (drop k new)

-- what leads from a scope to the levels of a path
abbrev pub said_before : Scope → List Entry → List Command
said_before Outside new = from_outside new
said_before (Inside old) new = onto old new (kept old new)
said_before (Left old) new = all_pops old ++ from_outside new

-- the question's own level: the symbols of the negated condition that aren't declared yet, and its assertion
abbrev pub asked : List Entry → Term → List Command
asked path condition = (Push 1 ∷ declarations (missing (with_listed [] (terms path)) (negate condition))) ++ Assert (negate condition) ∷ []

-- whether the condition follows from the path: can the path and the negated condition be true together?
abbrev pub question : Scope → List Entry → Term → List Command
question scope path condition = said_before scope path ++ asked path condition

-- a question up to its reply
abbrev pub posted : Scope → List Entry → Term → List Command
posted scope path condition = question scope path condition ++ CheckSat ∷ []

-- a turn whose path has the numbers of its segments
pub data ScopedTurn : Type 0 where
  Asks : List Entry → Term → ScopedTurn
  Posts : List Entry → Term → ScopedTurn
  Leaves : ScopedTurn

-- the turn without the numbers
abbrev pub plain : ScopedTurn → Turn
plain (Asks path condition) = turns.Asks (terms path) condition
plain (Posts path condition) = turns.Posts (terms path) condition
plain Leaves = turns.Leaves

-- Nothing is said where a member is left: what has to be closed is closed before the next question.
abbrev pub left : Scope → Scope
left Outside = Outside
left (Inside old) = Left old
left (Left old) = Left old

-- where a dialogue stands behind a turn
abbrev pub scope_after : Scope → ScopedTurn → Scope
scope_after scope (Asks path condition) = Inside path
scope_after scope (Posts path condition) = Inside path
scope_after scope Leaves = left scope

-- what is said in a turn
abbrev pub said_of : Scope → ScopedTurn → List Command
said_of scope (Asks path condition) = posted scope path condition
said_of scope (Posts path condition) = posted scope path condition
said_of scope Leaves = []

-- what is said in all turns, from this scope on
abbrev pub said_by : Scope → List ScopedTurn → List Command
said_by scope [] = []
said_by scope (t ∷ turns) = said_of scope t ++ said_by (scope_after scope t) turns

-- where a dialogue stands behind all turns
abbrev pub scope_from : Scope → List ScopedTurn → Scope
scope_from scope [] = scope
scope_from scope (t ∷ turns) = scope_from (scope_after scope t) turns

-- all that a dialogue of these turns says
abbrev pub script : Bool → List Declared → List ScopedTurn → List Command
script certify functions turns = preamble certify functions ++ said_by Outside turns

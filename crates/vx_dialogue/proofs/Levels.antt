-- The commands of a dialogue: they are plain, what they make of a level, and what one turn more says.
use Rattle.std.proofs.Common.{◌≡◌, ◌++◌, ◌+◌, ℕ, zero, suc, nat_eq, if◌then◌else◌, Bool, true, false, List, [], ◌∷◌, drop, take, Option, Some, None, refl, ap, ◌∙◌, sym, append_assoc}
use Rattle.vx_terms.specs.Terms.{Term}
use Rattle.vx_terms.specs.Build.{negate}
use Rattle.vx_smt_meaning.specs.Commands.{Declared, Assert, Push, CheckSat, Level, empty_level, stack_from, stack_of, assertions_of}
use Rattle.vx_smt_meaning.specs.Dialogues.{ArePlain}
use Rattle.vx_smt_meaning.specs.Standard.{standard_symbols}
use Rattle.vx_dialogue.specs.Preamble.{front, options, logic, declarations, preamble}
use Rattle.vx_segments.specs.Segments.{Entry, terms}
use Rattle.vx_dialogue.specs.Symbols.{with_variables, with_listed}
use Rattle.vx_dialogue.specs.Segments.{last_of, missing, opening, sent, depth, pops}
use Rattle.vx_dialogue.specs.Kept.{kept}
use Rattle.vx_dialogue.specs.Scripts.{Scope, Outside, Inside, Left, all_pops, from_outside, onto, said_before, asked, question, posted, ScopedTurn, Asks, Posts, Leaves, scope_after, said_of, said_by, scope_from, script}
use Rattle.vx_dialogue.specs.Dialogue.{pushed}
use Rattle.vx_dialogue.proofs.Whole.{assertions}
use Rattle.vx_dialogue.proofs.Lists.{none_more, stack_append, plain_join}

-- ---- the commands are plain

plain_declarations : (ds : List Declared) → ArePlain (declarations ds)
plain_declarations [] = tt
plain_declarations (d ∷ ds) = (refl, plain_declarations ds)

plain_options : (c : Bool) → ArePlain (options c)
plain_options true = (refl, (refl, tt))
plain_options false = (refl, tt)

plain_front : (c : Bool) → ArePlain (front c)
plain_front c =
    plain_join (options c ++ logic) (declarations standard_symbols)
    (plain_join (options c) logic (plain_options c) (refl, (refl, (refl, tt)))) (plain_declarations standard_symbols)

pub plain_preamble : (c : Bool) (fs : List Declared) → ArePlain (preamble c fs)
plain_preamble c fs = plain_join (front c) (declarations fs) (plain_front c) (plain_declarations fs)

plain_opening : (b : Bool) → ArePlain (if b then [] else (Push 1 ∷ []))
plain_opening true = tt
plain_opening false = (refl, tt)

plain_sent : (last : ℕ) (ds : List Declared) (es : List Entry) → ArePlain (sent last ds es)
plain_sent last ds [] = tt
plain_sent last ds (e ∷ es) =
    let declared = declarations (missing ds e.term) in
    plain_join ((opening last e ++ declared) ++ Assert e.term ∷ []) (sent e.segment (with_variables ds e.term) es)
    (plain_join (opening last e ++ declared) (Assert e.term ∷ [])
    (plain_join (opening last e) declared (plain_opening (nat_eq e.segment last)) (plain_declarations (missing ds e.term))) (refl, tt))
    (plain_sent e.segment (with_variables ds e.term) es)

plain_pops : (n : ℕ) → ArePlain (pops n)
plain_pops zero = tt
plain_pops (suc n) = (refl, plain_pops n)

plain_outside : (new : List Entry) → ArePlain (from_outside new)
plain_outside new = (refl, plain_sent 0 [] new)

plain_all : (old new : List Entry) → ArePlain (all_pops old ++ from_outside new)
plain_all old new = plain_join (all_pops old) (from_outside new) (plain_pops (suc (depth 0 old + 1))) (plain_outside new)

plain_onto : (old new : List Entry) (o : Option ℕ) → ArePlain (onto old new o)
plain_onto old new None = plain_all old new
plain_onto old new (Some k) =
    let last = last_of 0 (take k old) in
    let n = suc (depth last (drop k old)) in
    plain_join (pops n) (sent last (with_listed [] (terms (take k old))) (drop k new)) (plain_pops n) (plain_sent last (with_listed [] (terms (take k old))) (drop k new))

plain_before : (scope : Scope) (new : List Entry) → ArePlain (said_before scope new)
plain_before Outside new = plain_outside new
plain_before (Inside old) new = plain_onto old new (kept old new)
plain_before (Left old) new = plain_all old new

pub plain_question : (scope : Scope) (p : List Entry) (t : Term) → ArePlain (question scope p t)
plain_question scope p t =
    let symbols = missing (with_listed [] (terms p)) (negate t) in
    plain_join (said_before scope p) (asked p t) (plain_before scope p)
    (plain_join (Push 1 ∷ declarations symbols) (Assert (negate t) ∷ []) (refl, plain_declarations symbols) (refl, tt))

-- ---- what they make of a level

pub declared_level : (l : Level) (levels : List Level) (s : List Declared) → stack_from (l ∷ levels) (declarations s) ≡ record l { symbols = pushed s l.symbols } ∷ levels
declared_level l levels [] = refl
declared_level l levels (d ∷ ds) = declared_level (record l { symbols = d ∷ l.symbols }) levels ds

pub asserted_level : (l : Level) (levels : List Level) (p : List Term) → stack_from (l ∷ levels) (assertions p) ≡ record l { assertions = pushed p l.assertions } ∷ levels
asserted_level l levels [] = refl
asserted_level l levels (t ∷ p) = asserted_level (record l { assertions = t ∷ l.assertions }) levels p

-- one level, which asserts nothing
pub record IsBare (levels : List Level) : Type 0 where
  pub level : Level
  pub is : levels ≡ level ∷ []
  pub none : level.assertions ≡ []

bare_front : (c : Bool) → IsBare (stack_of (front c))
bare_front true = record { level = _; is = refl; none = refl }
bare_front false = record { level = _; is = refl; none = refl }

-- the preamble leaves one
pub bare_preamble : (c : Bool) (fs : List Declared) → IsBare (stack_of (preamble c fs))
bare_preamble c fs =
    let start = bare_front c in record {
      level = record (start.level) { symbols = pushed fs start.level.symbols };
      is = stack_append (empty_level ∷ []) (front c) (declarations fs) ∙ (ap (λ x. stack_from x (declarations fs)) start.is ∙ declared_level start.level [] fs);
      none = start.none;
    }

pub bare_asserts : (levels : List Level) → IsBare levels → assertions_of levels ≡ []
bare_asserts levels bare = ap assertions_of bare.is ∙ (none_more bare.level.assertions ∙ bare.none)

-- ---- one turn more

said_more : (scope : Scope) (turns : List ScopedTurn) (turn : ScopedTurn) → said_by scope (turns ++ turn ∷ []) ≡ said_by scope turns ++ said_of (scope_from scope turns) turn
said_more scope [] turn = none_more (said_of scope turn)
said_more scope (t ∷ turns) turn =
    ap (λ x. said_of scope t ++ x) (said_more (scope_after scope t) turns turn)
    ∙ sym (append_assoc (said_of scope t) (said_by (scope_after scope t) turns) (said_of (scope_from (scope_after scope t) turns) turn))

more_from : (scope : Scope) (turns : List ScopedTurn) (turn : ScopedTurn) → scope_from scope (turns ++ turn ∷ []) ≡ scope_after (scope_from scope turns) turn
more_from scope [] turn = refl
more_from scope (t ∷ turns) turn = more_from (scope_after scope t) turns turn

pub scope_more : (turns : List ScopedTurn) (turn : ScopedTurn) → scope_from Outside (turns ++ turn ∷ []) ≡ scope_after (scope_from Outside turns) turn
scope_more turns turn = more_from Outside turns turn

pub script_more : (c : Bool) (fs : List Declared) (turns : List ScopedTurn) (turn : ScopedTurn) → script c fs (turns ++ turn ∷ []) ≡ script c fs turns ++ said_of (scope_from Outside turns) turn
script_more c fs turns turn =
    ap (λ x. preamble c fs ++ x) (said_more Outside turns turn) ∙ sym (append_assoc (preamble c fs) (said_by Outside turns) (said_of (scope_from Outside turns) turn))

pub script_none : (c : Bool) (fs : List Declared) → script c fs [] ≡ preamble c fs
script_none c fs = none_more (preamble c fs)

-- a question is asked
pub script_posted : (c : Bool) (fs : List Declared) (turns : List ScopedTurn) (p : List Entry) (t : Term) (scope : Scope) → scope ≡ scope_from Outside turns
    → (script c fs turns ++ question scope p t) ++ CheckSat ∷ [] ≡ script c fs (turns ++ Posts p t ∷ [])
script_posted c fs turns p t scope same =
    append_assoc (script c fs turns) (question scope p t) (CheckSat ∷ []) ∙ (ap (λ x. script c fs turns ++ posted x p t) same ∙ sym (script_more c fs turns (Posts p t)))

-- nothing is said when its reply is there
pub script_asked : (c : Bool) (fs : List Declared) (turns : List ScopedTurn) (p : List Entry) (t : Term) → script c fs (turns ++ Asks p t ∷ []) ≡ script c fs (turns ++ Posts p t ∷ [])
script_asked c fs turns p t = script_more c fs turns (Asks p t) ∙ sym (script_more c fs turns (Posts p t))

-- nor when the member is left
pub script_left : (c : Bool) (fs : List Declared) (turns : List ScopedTurn) → script c fs (turns ++ Leaves ∷ []) ≡ script c fs turns
script_left c fs turns = script_more c fs turns Leaves ∙ none_more (script c fs turns)

-- What holds of each kind of command that a dialogue says holds of all that it says.
use Rattle.std.proofs.Common.{ℕ, zero, suc, ◌+◌, Bool, true, false, nat_eq, List, [], ◌∷◌, ◌++◌, drop, take, Option, Some, None, ap, ◌∙◌, sym, subst, if◌then◌else◌}
use Rattle.std.proofs.lemmas.List.{take-append-drop, map-append}
use Rattle.vx_terms.specs.Terms.{Term}
use Rattle.vx_terms.specs.Build.{negate}
use Rattle.vx_terms.specs.Interpretations.{Each}
use Rattle.vx_smt_meaning.specs.Commands.{Command, Declared, DeclareFun, Assert, Push, Pop, CheckSat}
use Rattle.vx_segments.specs.Segments.{Entry, terms}
use Rattle.vx_dialogue.specs.Symbols.{with_variables, with_listed}
use Rattle.vx_dialogue.specs.Preamble.{declarations, front, preamble}
use Rattle.vx_dialogue.specs.Segments.{last_of, missing, opening, sent, depth, pops}
use Rattle.vx_dialogue.specs.Kept.{kept}
use Rattle.vx_dialogue.specs.Scripts.{Scope, Outside, Inside, Left, all_pops, from_outside, onto, said_before, asked, question, posted, ScopedTurn, Asks, Posts, Leaves, left, said_by, script}

-- It holds of each declaration, of the assertion of each term with this property, of what opens and closes a level, and of a check.
pub record HoldsOf (P : Command → Type 0) (Q : Term → Type 0) : Type 0 where
  pub declares : (d : Declared) → P (DeclareFun d)
  pub asserts : (t : Term) → Q t → P (Assert t)
  pub opens : P (Push 1)
  pub closes : P (Pop 1)
  pub checks : P CheckSat

module _ (Q : Term → Type 0) where
  -- the path and the negated condition of a turn have this property
  abbrev pub Asserts : ScopedTurn → Type 0
  Asserts (Asks path condition) = Each Q (terms path) × Q (negate condition)
  Asserts (Posts path condition) = Each Q (terms path) × Q (negate condition)
  Asserts Leaves = Unit {0}

  each_back : (xs ys : List Term) → Each Q (xs ++ ys) → Each Q ys
  each_back [] ys h = h
  each_back (x ∷ xs) ys h = each_back xs ys h.1

  each_rest : (k : ℕ) (path : List Entry) → Each Q (terms path) → Each Q (terms (drop k path))
  each_rest k path h =
      each_back (terms (take k path)) (terms (drop k path)) (subst (Each Q) (ap terms (sym (take-append-drop k path)) ∙ map-append (λ e. e.term) (take k path) (drop k path)) h)

module _ (P : Command → Type 0) (Q : Term → Type 0) (holds : HoldsOf P Q) where
  joined : (xs ys : List Command) → Each P xs → Each P ys → Each P (xs ++ ys)
  joined [] ys h g = g
  joined (x ∷ xs) ys h g = (h.0, joined xs ys h.1 g)

  pub declared_all : (ds : List Declared) → Each P (declarations ds)
  declared_all [] = tt
  declared_all (d ∷ ds) = (holds.declares d, declared_all ds)

  popped_all : (n : ℕ) → Each P (pops n)
  popped_all zero = tt
  popped_all (suc n) = (holds.closes, popped_all n)

  opened_all : (b : Bool) → Each P (if b then [] else (Push 1 ∷ []))
  opened_all true = tt
  opened_all false = (holds.opens, tt)

  sent_all : (last : ℕ) (ds : List Declared) (es : List Entry) → Each Q (terms es) → Each P (sent last ds es)
  sent_all last ds [] h = tt
  sent_all last ds (e ∷ es) h =
      let more = declarations (missing ds e.term) in
      joined ((opening last e ++ more) ++ Assert e.term ∷ []) (sent e.segment (with_variables ds e.term) es)
      (joined (opening last e ++ more) (Assert e.term ∷ []) (joined (opening last e) more (opened_all (nat_eq e.segment last)) (declared_all (missing ds e.term)))
      (holds.asserts e.term h.0, tt))
      (sent_all e.segment (with_variables ds e.term) es h.1)

  outside_all : (path : List Entry) → Each Q (terms path) → Each P (from_outside path)
  outside_all path h = (holds.opens, sent_all 0 [] path h)

  from_all : (old path : List Entry) → Each Q (terms path) → Each P (all_pops old ++ from_outside path)
  from_all old path h = joined (all_pops old) (from_outside path) (popped_all (suc (depth 0 old + 1))) (outside_all path h)

  onto_all : (old path : List Entry) (o : Option ℕ) → Each Q (terms path) → Each P (onto old path o)
  onto_all old path None h = from_all old path h
  onto_all old path (Some k) h =
      let last = last_of 0 (take k old) in
      let ds = with_listed [] (terms (take k old)) in
      let n = suc (depth last (drop k old)) in
      joined (pops n) (sent last ds (drop k path)) (popped_all n) (sent_all last ds (drop k path) (each_rest Q k path h))

  before_all : (scope : Scope) (path : List Entry) → Each Q (terms path) → Each P (said_before scope path)
  before_all Outside path h = outside_all path h
  before_all (Inside old) path h = onto_all old path (kept old path) h
  before_all (Left old) path h = from_all old path h

  posted_all : (scope : Scope) (path : List Entry) (condition : Term) → Each Q (terms path) → Q (negate condition) → Each P (posted scope path condition)
  posted_all scope path condition h negated =
      let symbols = missing (with_listed [] (terms path)) (negate condition) in
      joined (question scope path condition) (CheckSat ∷ [])
      (joined (said_before scope path) (asked path condition) (before_all scope path h)
      (joined (Push 1 ∷ declarations symbols) (Assert (negate condition) ∷ []) (holds.opens, declared_all symbols) (holds.asserts (negate condition) negated, tt))) (holds.checks, tt)

  said_all : (scope : Scope) (turns : List ScopedTurn) → Each (Asserts Q) turns → Each P (said_by scope turns)
  said_all scope [] h = tt
  said_all scope (Asks path condition ∷ turns) h = joined (posted scope path condition) (said_by (Inside path) turns) (posted_all scope path condition h.0.0 h.0.1) (said_all (Inside path) turns h.1)
  said_all scope (Posts path condition ∷ turns) h = joined (posted scope path condition) (said_by (Inside path) turns) (posted_all scope path condition h.0.0 h.0.1) (said_all (Inside path) turns h.1)
  said_all scope (Leaves ∷ turns) h = said_all (left scope) turns h.1

  -- where it holds of what is said before the symbols of functions
  pub script_all : (functions : List Declared) (turns : List ScopedTurn) → Each P (front false) → Each (Asserts Q) turns → Each P (script false functions turns)
  script_all functions turns first h =
      joined (preamble false functions) (said_by Outside turns) (joined (front false) (declarations functions) first (declared_all functions)) (said_all Outside turns h)

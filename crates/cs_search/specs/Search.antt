-- A search: its clauses, how the derived ones were derived, and its assignment.
use Rattle.std.specs.Prelude.{◌≡◌, ℕ, ◌<◌, ◌≤◌, ◌+◌, ◌⊎◌, List, [], ◌∷◌, ◌++◌, length, Some, slice_get, reverse}
use Rattle.cs_certificate.specs.declared.literal.Literal.{Literal}
use Rattle.cs_search.specs.declared.Value.{Value}
use Rattle.cs_search.specs.declared.Entry.{Entry}
use Rattle.cs_certificate.specs.declared.literal.Clause.{Clause}
use Rattle.cs_search.specs.declared.search.Hints.{Hints}
use Rattle.cs_search.specs.declared.search.Search.{Search}
use Rattle.cs_search.specs.declared.search.Solved.{Solved}
use Rattle.cs_search.specs.declared.search.Solved.TheVariants.{Refuted, Assigned}
use Rattle.cs_search.specs.declared.search.Turn.{Turn}
use Rattle.cs_search.specs.declared.search.Turn.TheVariants.{Ended, Spent, On}
use Rattle.cs_meter.specs.declared.Meter.{Meter}
use Rattle.cs_meter.specs.Units.{limit}
use Rattle.cs_search.specs.declared.Value.TheVariants.{Unset}
use Rattle.cs_search.specs.Assignment.{IsTrail, IsFalse, IsContained, IsSatisfied, IsClosedAtDecisions}
use Rattle.cs_search.specs.Extended.{AreKnown, unset_count}
use Rattle.cs_search.specs.Propagation.{IsDerived}
use Rattle.cs_search.specs.Queued.{IsQueued}

pub record IsSearch (clauses : List Clause) (values : List Value) (trail : List Entry) : Type 0 where
  pub sound : IsTrail clauses values trail
  pub known : AreKnown clauses (length values)
  pub closed : IsClosedAtDecisions clauses values trail

-- no clause so far is contained in it
abbrev pub IsUncovered : List Clause → List Literal → Type 0
IsUncovered clauses literals = (i : ℕ) (c : Clause) → slice_get clauses i ≡ Some c → ¬ (IsContained c.literals.items literals)

-- its literals are false under an assignment that the clauses made
abbrev pub IsFalsified : List Clause → List Literal → Type 0
IsFalsified clauses literals = (values : List Value) × (trail : List Entry) × (k : ℕ) × IsTrail clauses values trail × IsFalse values k literals

-- the clauses, with further ones, each derived by its hints from those before it, false when it was learned, and containing none of them
pub data Learns : List Clause → List Hints → List Clause → List Hints → Type 0 where
  learns_none : {clauses : List Clause} {steps : List Hints} → Learns clauses steps clauses steps
  learns_more : {old new : List Clause} {before after : List Hints} (c : Clause) (hints : Hints) →
      Learns old before new after → IsDerived new c.literals.items (reverse hints.numbers.items) → IsFalsified new c.literals.items → IsUncovered new c.literals.items →
      Learns old before (new ++ c ∷ []) (after ++ hints ∷ [])

abbrev pub AreSatisfied : List Clause → List Value → Type 0
AreSatisfied clauses values = (i : ℕ) (c : Clause) → slice_get clauses i ≡ Some c → IsSatisfied values c.literals.items

-- what an answer says of the clauses and the table
abbrev pub IsSolved : List Clause → List Value → Solved → Type 0
IsSolved clauses values (Refuted hints) = IsDerived clauses [] (reverse hints.numbers.items)
IsSolved clauses values Assigned = AreSatisfied clauses values

abbrev pub AreSet : List Value → Type 0
AreSet values = (i : ℕ) (v : Value) → slice_get values i ≡ Some v → ¬ (v ≡ Unset)

-- a unit was spent, or one more atom has a value
abbrev pub IsOn : List Value → List Value → Meter → Meter → Type 0
IsOn old new before after =
    ((after.spent ≡ before.spent + 1) × (before.spent < limit)) ⊎ ((after.spent ≡ before.spent) × (unset_count new < unset_count old))

abbrev pub IsRound : List Clause → List Value → List Value → Meter → Meter → Turn → Type 0
IsRound clauses old new before after (Ended solved) = IsSolved clauses new solved
IsRound clauses old new before after Spent = after.spent ≡ limit
IsRound clauses old new before after On = IsOn old new before after

-- each atom from k on has a value
abbrev pub AreSetFrom : List Value → ℕ → Type 0
AreSetFrom values k = (i : ℕ) (v : Value) → k ≤ i → slice_get values i ≡ Some v → ¬ (v ≡ Unset)

-- a search as each call leaves it
pub record IsReady (s : Search) : Type 0 where
  pub sound : IsSearch s.clauses.items s.made.values.items s.made.trail.items
  pub queued : IsQueued s.clauses.items s.made.values.items s.made.trail.items s.queue

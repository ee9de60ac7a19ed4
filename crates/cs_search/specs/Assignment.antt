-- The assignment: what a table of values says of literals and clauses.
use Rattle.std.specs.Prelude.{◌≡◌, ℕ, ◌<◌, ◌⊎◌, Bool, true, false, not, List, Option, Some, None, slice_get}
use Rattle.std.specs.List.{All, Contains}
use Rattle.cs_certificate.specs.declared.literal.Literal.{Literal}
use Rattle.cs_search.specs.declared.Value.{Value}
use Rattle.cs_search.specs.declared.Value.TheVariants.{Unset, Positive, Negative}
use Rattle.cs_search.specs.declared.Status.{Status}
use Rattle.cs_search.specs.declared.Status.TheVariants.{Unassigned, True, False}
use Rattle.cs_search.specs.declared.Entry.{Entry}
use Rattle.cs_certificate.specs.declared.literal.Clause.{Clause}

abbrev pub negated : Literal → Literal
negated l = record { positive = not l.positive; number = l.number }

abbrev pub seen : Bool → Value → Status
seen b Unset = Unassigned
seen true (Positive p) = True p
seen false (Positive p) = False p
seen true (Negative p) = False p
seen false (Negative p) = True p

abbrev pub seen_or : Bool → Option Value → Status
seen_or b None = Unassigned
seen_or b (Some v) = seen b v

-- the literal's truth, with the place on the trail of what made it so
abbrev pub status_of : List Value → Literal → Status
status_of values l = seen_or l.positive (slice_get values l.number)

abbrev pub FalseBefore : List Value → ℕ → Literal → Type 0
FalseBefore values k l = (p : ℕ) × (p < k) × (status_of values l ≡ False p)

abbrev pub TrueBefore : List Value → ℕ → Literal → Type 0
TrueBefore values k l = (p : ℕ) × (p < k) × (status_of values l ≡ True p)

-- before k each literal but u is false
abbrev pub LeavesOnly : List Value → ℕ → List Literal → Literal → Type 0
LeavesOnly values k c u = All (λ m. (m ≡ u) ⊎ FalseBefore values k m) c

-- the clause is false
abbrev pub IsFalse : List Value → ℕ → List Literal → Type 0
IsFalse values k c = All (FalseBefore values k) c

abbrev pub IsSatisfied : List Value → List Literal → Type 0
IsSatisfied values c = (l : Literal) × (p : ℕ) × Contains c l × (status_of values l ≡ True p)

-- what the clause forces before k is true before k
abbrev pub IsClosed : List Value → ℕ → List Literal → Type 0
IsClosed values k c = (u : Literal) → LeavesOnly values k c u → TrueBefore values k u

-- each literal of c is one of d
abbrev pub IsContained : List Literal → List Literal → Type 0
IsContained c d = All (Contains d) c

-- an entry with a reason is forced by that clause before k
abbrev pub IsForced : List Clause → List Value → ℕ → Entry → Type 0
IsForced clauses values k e = (r : ℕ) → e.reason ≡ Some r → (c : Clause) × (slice_get clauses r ≡ Some c) × Contains c.literals.items e.literal × LeavesOnly values k c.literals.items e.literal

-- the trail is what made each value, and each entry with a reason is forced by that clause
pub record IsTrail (clauses : List Clause) (values : List Value) (trail : List Entry) : Type 0 where
  pub set : (j : ℕ) (e : Entry) → slice_get trail j ≡ Some e → status_of values e.literal ≡ True j
  pub placed : (l : Literal) (p : ℕ) → status_of values l ≡ True p → (e : Entry) × (slice_get trail p ≡ Some e) × (e.literal ≡ l)
  pub reasoned : (j r : ℕ) (e : Entry) → slice_get trail j ≡ Some e → e.reason ≡ Some r → (c : Clause) × (slice_get clauses r ≡ Some c) × Contains c.literals.items e.literal × LeavesOnly values j c.literals.items e.literal

-- at each decision nothing was left to propagate
abbrev pub IsClosedAtDecisions : List Clause → List Value → List Entry → Type 0
IsClosedAtDecisions clauses values trail =
    (d : ℕ) (e : Entry) → slice_get trail d ≡ Some e → e.reason ≡ None → (i : ℕ) (c : Clause) → slice_get clauses i ≡ Some c → IsClosed values d c.literals.items

-- the value that makes a literal of this sign true
abbrev pub valued : Bool → ℕ → Value
valued true p = Positive p
valued false p = Negative p

abbrev pub IsUnassigned : List Value → Literal → Type 0
IsUnassigned values l = status_of values l ≡ Unassigned

abbrev pub BecameFalse : List Value → Literal → Type 0
BecameFalse values l = (p : ℕ) × (status_of values l ≡ False p)

-- the literal is unassigned or true
abbrev pub NotFalse : List Value → Literal → Type 0
NotFalse values l = (p : ℕ) → ¬ (status_of values l ≡ False p)

-- each place is below len
abbrev pub IsPlacedBelow : List Value → ℕ → Type 0
IsPlacedBelow values len = (l : Literal) (p : ℕ) → status_of values l ≡ False p → p < len

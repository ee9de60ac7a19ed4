-- How far the assignment is taken back for a clause.
use Rattle.std.specs.Prelude.{◌≡◌, ℕ, ◌<◌, List, Option, Some, None, slice_get}
use Rattle.cs_certificate.specs.declared.literal.Literal.{Literal}
use Rattle.cs_search.specs.declared.Value.{Value}
use Rattle.cs_search.specs.declared.Entry.{Entry}
use Rattle.std.specs.List.{Contains}
use Rattle.cs_search.specs.Assignment.{FalseBefore, LeavesOnly, IsClosed, IsUnassigned}

abbrev pub HasReason : Entry → Type 0
HasReason e = (r : ℕ) × (e.reason ≡ Some r)

abbrev pub IsDecision : List Entry → ℕ → Type 0
IsDecision trail d = (e : Entry) × (slice_get trail d ≡ Some e) × (e.reason ≡ None)

-- the latest decision before a place
abbrev pub IsLatest : List Entry → ℕ → Option ℕ → Type 0
IsLatest trail below None = (j : ℕ) (e : Entry) → j < below → slice_get trail j ≡ Some e → HasReason e
IsLatest trail below (Some d) = (d < below) × IsDecision trail d × ((j : ℕ) (e : Entry) → d < j → j < below → slice_get trail j ≡ Some e → HasReason e)

-- before the cut the clause forces the literal, and it is closed at each decision before
pub record IsSettled (values : List Value) (trail : List Entry) (literals : List Literal) (forced : Literal) (cut : ℕ) : Type 0 where
  pub leaves : LeavesOnly values cut literals forced
  pub open' : ¬ (FalseBefore values cut forced)
  pub closed : (d : ℕ) → d < cut → IsDecision trail d → IsClosed values d literals

-- the assignment leaves one literal of the clause, unassigned, and makes the others false
pub record Forces (values : List Value) (len : ℕ) (literals : List Literal) (forced : Literal) : Type 0 where
  pub contained : Contains literals forced
  pub free : IsUnassigned values forced
  pub leaves : LeavesOnly values len literals forced

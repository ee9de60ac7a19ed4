-- An assignment that propagation extends.
use Rattle.std.specs.Prelude.{◌≡◌, ℕ, ◌<◌, ◌≤◌, ◌+◌, ◌⊎◌, Bool, true, false, List, [], ◌∷◌, suc, Some, length, slice_get}
use Rattle.std.specs.List.{All}
use Rattle.cs_search.specs.declared.Value.{Value}
use Rattle.cs_search.specs.declared.Value.TheVariants.{Unset, Positive, Negative}
use Rattle.cs_search.specs.declared.Entry.{Entry}
use Rattle.cs_certificate.specs.declared.literal.Clause.{Clause}
use Rattle.cs_search.specs.Assignment.{IsTrail, IsFalse, IsClosed}

abbrev pub is_unset : Value → Bool
is_unset Unset = true
is_unset (Positive p) = false
is_unset (Negative p) = false

abbrev pub unset_count : List Value → ℕ
unset_count [] = 0
unset_count (Unset ∷ values) = suc (unset_count values)
unset_count (Positive p ∷ values) = unset_count values
unset_count (Negative p ∷ values) = unset_count values

-- each atom has a row of the table
abbrev pub AreKnown : List Clause → ℕ → Type 0
AreKnown clauses n = (i : ℕ) (c : Clause) → slice_get clauses i ≡ Some c → All (λ l. l.number < n) c.literals.items

-- the same entries, and further ones with reasons
pub record IsExtended (clauses : List Clause) (values : List Value) (trail : List Entry) (values' : List Value) (trail' : List Entry) : Type 0 where
  pub sound : IsTrail clauses values' trail'
  pub width : length values' ≡ length values
  pub kept : (j : ℕ) (e : Entry) → slice_get trail j ≡ Some e → slice_get trail' j ≡ Some e
  pub forced : (j : ℕ) (e : Entry) → slice_get trail' j ≡ Some e → (slice_get trail j ≡ Some e) ⊎ ((r : ℕ) × (e.reason ≡ Some r))
  pub fewer : unset_count values' ≤ unset_count values
  pub counted : unset_count values' + length trail' ≡ unset_count values + length trail

abbrev pub IsConflict : List Clause → List Value → ℕ → ℕ → Type 0
IsConflict clauses values len i = (c : Clause) × (slice_get clauses i ≡ Some c) × IsFalse values len c.literals.items

-- each clause below n is closed
abbrev pub AreClosed : List Clause → List Value → ℕ → ℕ → Type 0
AreClosed clauses values len n = (i : ℕ) (c : Clause) → i < n → slice_get clauses i ≡ Some c → IsClosed values len c.literals.items

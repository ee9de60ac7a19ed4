-- What follows from what was claimed and from congruence, and merges that follow it.
use Rattle.std.specs.Prelude.{◌≡◌, ℕ, ◌<◌, ◌≤◌, Bool, true, false, not, ◌&&◌, ◌||◌, nat_eq, List, [], ◌∷◌, length, get_or, take, slice_get, Option, Some, None}
use Rattle.cs_cong.specs.declared.congruent.Applied.{Applied}
use Rattle.cs_cong.specs.declared.congruent.Claim.{Claim}
use Rattle.cs_cong.specs.declared.merges.Merge.{Merge}
use Rattle.cs_cong.specs.declared.merges.Reason.{Reason}
use Rattle.cs_cong.specs.declared.merges.Reason.TheVariants.{Claimed, Congruence}
use Rattle.cs_cong.specs.Merged.{nothing, representative, current}

abbrev pub says : Option Claim → ℕ → ℕ → Bool
says (Some c) a b = c.equal && (nat_eq c.left a && nat_eq c.right b)
says None a b = false

-- the claim of this number says that a and b are equal
abbrev pub is_claimed : List Claim → ℕ → ℕ → ℕ → Bool
is_claimed claims i a b = says (slice_get claims i) a b

-- the least congruence on the terms that has what is claimed
mutual
  pub data Joined (terms : List Applied) (claims : List Claim) : ℕ → ℕ → Type 0 where
    claimed : {a b : ℕ} (i : ℕ) → is_claimed claims i a b ≡ true → Joined terms claims a b
    itself : (a : ℕ) → Joined terms claims a a
    turned : {a b : ℕ} → Joined terms claims a b → Joined terms claims b a
    joined : {a b c : ℕ} → Joined terms claims a b → Joined terms claims b c → Joined terms claims a c
    congruent : {a b : ℕ} (s t : Applied) → slice_get terms a ≡ Some s → slice_get terms b ≡ Some t → s.head ≡ t.head → AllJoined terms claims s.parts.items t.parts.items → Joined terms claims a b

  pub data AllJoined (terms : List Applied) (claims : List Claim) : List ℕ → List ℕ → Type 0 where
    no_parts : AllJoined terms claims [] []
    one_part : {a b : ℕ} {xs ys : List ℕ} → Joined terms claims a b → AllJoined terms claims xs ys → AllJoined terms claims (a ∷ xs) (b ∷ ys)

-- parts with the same representatives, place by place
abbrev pub all_same : (ℕ → ℕ) → List ℕ → List ℕ → Bool
all_same f [] [] = true
all_same f (x ∷ xs) (y ∷ ys) = nat_eq (f x) (f y) && all_same f xs ys
all_same f _ _ = false

abbrev pub alike : (ℕ → ℕ) → Option Applied → Option Applied → Bool
alike f (Some s) (Some t) = nat_eq s.head t.head && all_same f s.parts.items t.parts.items
alike f _ _ = false

-- one head, and parts with the same representatives
abbrev pub are_congruent : List Applied → (ℕ → ℕ) → ℕ → ℕ → Bool
are_congruent terms f a b = alike f (slice_get terms a) (slice_get terms b)

abbrev pub is_reason : List Applied → List Claim → (ℕ → ℕ) → Reason → ℕ → ℕ → Bool
is_reason terms claims f (Claimed i) a b = is_claimed claims i a b || is_claimed claims i b a
is_reason terms claims f Congruence a b = are_congruent terms f a b

-- each merge has its reason in what is claimed, or in the merges before it
abbrev pub AreJustified : List Applied → List Claim → List Merge → Type 0
AreJustified terms claims log =
    (k : ℕ) → k < length log → is_reason terms claims (representative log k) (get_or log k nothing).reason (get_or log k nothing).left (get_or log k nothing).right ≡ true

-- congruent terms are in one class
abbrev pub IsClosed : List Applied → List Merge → Type 0
IsClosed terms log = (a b : ℕ) → are_congruent terms (current log) a b ≡ true → current log a ≡ current log b

-- what is claimed to be equal is in one class
abbrev pub IsMet : List Claim → List Merge → Type 0
IsMet claims log = (i a b : ℕ) → is_claimed claims i a b ≡ true → current log a ≡ current log b

-- further merges, by congruence
pub record Grown (terms : List Applied) (old new : List Merge) : Type 0 where
  pub front : take (length old) new ≡ old
  pub longer : length old ≤ length new
  pub justified : (claims : List Claim) → AreJustified terms claims old → AreJustified terms claims new

abbrev pub denies : Option Claim → ℕ → ℕ → Bool
denies (Some c) a b = not c.equal && (nat_eq c.left a && nat_eq c.right b)
denies None a b = false

-- no two terms are equal of which a claim below n denies it
abbrev pub AreKeptBelow : List Applied → List Claim → ℕ → Type 0
AreKeptBelow terms claims n = (i a b : ℕ) → i < n → denies (slice_get claims i) a b ≡ true → Joined terms claims a b → ⊥

abbrev pub AreKept : List Applied → List Claim → Type 0
AreKept terms claims = (i a b : ℕ) → denies (slice_get claims i) a b ≡ true → Joined terms claims a b → ⊥

-- the claim denies that two terms are equal which are
abbrev pub IsBroken : List Applied → List Claim → ℕ → Type 0
IsBroken terms claims n = (a : ℕ) × (b : ℕ) × (denies (slice_get claims n) a b ≡ true) × Joined terms claims a b

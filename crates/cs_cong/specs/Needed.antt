-- What an explanation needs: the merges that are marked, and what is known of them.
use Rattle.std.specs.Prelude.{◌≡◌, ◌⊎◌, ℕ, ◌<◌, ◌≤◌, true, false, List, [], ◌∷◌, ◌++◌, length, get_or, slice_get, Some, map, All}
use Rattle.std.specs.BTreeSet.{BTreeSet}
use Rattle.std.specs.List.{Contains}
use Rattle.cs_cong.specs.declared.congruent.Applied.{Applied}
use Rattle.cs_cong.specs.declared.congruent.Claim.{Claim}
use Rattle.cs_cong.specs.declared.explain.Chain.{Chain}
use Rattle.cs_cong.specs.declared.explain.Derived.{Derived}
use Rattle.cs_cong.specs.declared.merges.Merge.{Merge}
use Rattle.cs_cong.specs.declared.merges.Reason.TheVariants.{Congruence}
use Rattle.cs_cong.specs.declared.paths.Edge.{Edge}
use Rattle.cs_cong.specs.Merged.{merge_at}
use Rattle.cs_cong.specs.Marked.{is_marked}
use Rattle.cs_cong.specs.Walks.{walk, end_of}
use Rattle.cs_cong.specs.Explained.{Joins, AreJoinedBy, IsKnown, IsDerivation}

-- where each edge leads
abbrev pub ends : List Merge → List Edge → List ℕ
ends log es = map (λ e. end_of e.forward (merge_at log e.merge)) es

abbrev pub AreMarked : BTreeSet ℕ → List Edge → Type 0
AreMarked marks es = All (λ e. is_marked marks e.merge ≡ true) es

-- the walks between parts at this time are marked
abbrev pub ArePartsMarked : List Merge → BTreeSet ℕ → ℕ → List ℕ → List ℕ → Type 0
ArePartsMarked log marks time xs ys = (k : ℕ) → k < length xs → AreMarked marks (walk log time (get_or xs k 0) (get_or ys k 0))

-- the merge of this number has marked what it needs
abbrev pub IsBacked : List Applied → List Merge → BTreeSet ℕ → ℕ → Type 0
IsBacked terms log marks k =
    (s t : Applied) → (merge_at log k).reason ≡ Congruence → slice_get terms (merge_at log k).left ≡ Some s → slice_get terms (merge_at log k).right ≡ Some t →
    ArePartsMarked log marks k s.parts.items t.parts.items

-- so have all that are marked, from this number on
abbrev pub AreBacked : List Applied → List Merge → BTreeSet ℕ → ℕ → Type 0
AreBacked terms log marks first = (k : ℕ) → first ≤ k → k < length log → is_marked marks k ≡ true → IsBacked terms log marks k

abbrev pub IsMergeKnown : List Merge → List Claim → List ℕ → List Derived → ℕ → Type 0
IsMergeKnown log claims named steps k = IsKnown claims named steps (merge_at log k).left (merge_at log k).right

abbrev pub AreKnown : List Merge → List Claim → List ℕ → List Derived → List Edge → Type 0
AreKnown log claims named steps es = All (λ e. IsMergeKnown log claims named steps e.merge) es

abbrev pub ArePartsKnown : List Merge → List Claim → List ℕ → List Derived → ℕ → List ℕ → List ℕ → Type 0
ArePartsKnown log claims named steps time xs ys = (k : ℕ) → k < length xs → AreKnown log claims named steps (walk log time (get_or xs k 0) (get_or ys k 0))

abbrev pub KeepsSteps : List Derived → List Derived → Type 0
KeepsSteps old new = (d : Derived) → Contains old d → Contains new d

-- a path from a to b is added
pub record HasPath (log : List Merge) (time a b : ℕ) (old new : List Derived) : Type 0 where
  pub added : (d : Derived) × (new ≡ old ++ d ∷ []) × Joins d a b
  pub follows : (terms : List Applied) (claims : List Claim) (named : List ℕ) → AreKnown log claims named old (walk log time a b) → IsDerivation terms claims named old → IsDerivation terms claims named new

-- a path is added where the two differ
pub record HasPart (log : List Merge) (time a b : ℕ) (old new : List Derived) : Type 0 where
  pub kept : KeepsSteps old new
  pub equal : (a ≡ b) ⊎ AreJoinedBy new a b
  pub follows : (terms : List Applied) (claims : List Claim) (named : List ℕ) → AreKnown log claims named old (walk log time a b) → IsDerivation terms claims named old → IsDerivation terms claims named new

-- a path is added for each of the first n pairs of parts that differ
pub record HasFirst (n : ℕ) (log : List Merge) (time : ℕ) (xs ys : List ℕ) (old new : List Derived) : Type 0 where
  pub kept : KeepsSteps old new
  pub equal : (k : ℕ) → k < n → (get_or xs k 0 ≡ get_or ys k 0) ⊎ AreJoinedBy new (get_or xs k 0) (get_or ys k 0)
  pub follows : (terms : List Applied) (claims : List Claim) (named : List ℕ) → ArePartsKnown log claims named old time xs ys → IsDerivation terms claims named old → IsDerivation terms claims named new

-- what the congruence of two terms needs is known
abbrev pub IsReady : List Applied → List Merge → List Claim → List ℕ → List Derived → ℕ → ℕ → ℕ → Type 0
IsReady terms log claims named steps time a b =
    (s t : Applied) → slice_get terms a ≡ Some s → slice_get terms b ≡ Some t → ArePartsKnown log claims named steps time s.parts.items t.parts.items

-- the congruence of a and b is added, and before it why their parts are equal
pub record HasCongruence (terms : List Applied) (log : List Merge) (time a b : ℕ) (old new : List Derived) : Type 0 where
  pub kept : KeepsSteps old new
  pub joined : AreJoinedBy new a b
  pub follows : (claims : List Claim) (named : List ℕ) → IsReady terms log claims named old time a b → IsDerivation terms claims named old → IsDerivation terms claims named new

-- what derives the merge of this number is added
pub record HasMerge (terms : List Applied) (claims : List Claim) (log : List Merge) (k : ℕ) (old new : Chain) : Type 0 where
  pub kept : (a b : ℕ) → IsKnown claims old.claims.items old.steps.items a b → IsKnown claims new.claims.items new.steps.items a b
  pub known : IsMergeKnown log claims new.claims.items new.steps.items k
  pub follows :
      ((merge_at log k).reason ≡ Congruence → IsReady terms log claims old.claims.items old.steps.items k (merge_at log k).left (merge_at log k).right) →
      IsDerivation terms claims old.claims.items old.steps.items → IsDerivation terms claims new.claims.items new.steps.items

-- the marked merges below n are known
abbrev pub AreKnownBelow : ℕ → List Merge → List Claim → BTreeSet ℕ → List ℕ → List Derived → Type 0
AreKnownBelow n log claims marks named steps = (k : ℕ) → k < n → is_marked marks k ≡ true → IsMergeKnown log claims named steps k

-- so are those that aren't left
abbrev pub AreKnownBut : BTreeSet ℕ → List Merge → List Claim → BTreeSet ℕ → List ℕ → List Derived → Type 0
AreKnownBut left log claims marks named steps = (k : ℕ) → is_marked marks k ≡ true → is_marked left k ≡ false → IsMergeKnown log claims named steps k

-- Explanations: steps that lead from what is claimed to the equality of two terms.
use Rattle.std.specs.Prelude.{◌≡◌, ◌⊎◌, ◌<◌, ℕ, true, List, [], ◌∷◌, ◌++◌, length, get_or, take, slice_get, Option, Some}
use Rattle.std.specs.List.{Contains}
use Rattle.cs_cong.specs.declared.congruent.Applied.{Applied}
use Rattle.cs_cong.specs.declared.congruent.Claim.{Claim}
use Rattle.cs_cong.specs.declared.explain.Chain.{Chain}
use Rattle.cs_cong.specs.declared.explain.Derived.{Derived}
use Rattle.cs_cong.specs.declared.explain.Derived.TheVariants.{Path, Congruent}
use Rattle.cs_cong.specs.Joined.{is_claimed}

-- the last of some terms, where a stands before them
abbrev pub last : ℕ → List ℕ → ℕ
last a [] = a
last a (b ∷ rest) = last b rest

-- the first of the terms is a, and the last is b
abbrev pub Ends : List ℕ → ℕ → ℕ → Type 0
Ends [] a b = ⊥
Ends (x ∷ rest) a b = (x ≡ a) × (last x rest ≡ b)

-- the step makes a and b equal: the ends of a path, or two congruent terms
abbrev pub Joins : Derived → ℕ → ℕ → Type 0
Joins (Path path) a b = Ends path.items a b
Joins (Congruent s t) a b = (s ≡ a) × (t ≡ b)

-- one of the steps makes a and b equal
abbrev pub AreJoinedBy : List Derived → ℕ → ℕ → Type 0
AreJoinedBy steps a b = (d : Derived) × Contains steps d × Joins d a b

-- a and b are equal by a claim that is named, or by a step, in either order
pub data IsKnown (claims : List Claim) (named : List ℕ) (steps : List Derived) : ℕ → ℕ → Type 0 where
  by_claim : {a b : ℕ} (i : ℕ) → Contains named i → is_claimed claims i a b ≡ true → IsKnown claims named steps a b
  by_step : {a b : ℕ} → AreJoinedBy steps a b → IsKnown claims named steps a b
  turned : {a b : ℕ} → IsKnown claims named steps a b → IsKnown claims named steps b a

-- a chain of known equalities from a to b
pub data IsChain (claims : List Claim) (named : List ℕ) (steps : List Derived) : ℕ → List ℕ → ℕ → Type 0 where
  alone : (a : ℕ) → IsChain claims named steps a (a ∷ []) a
  linked : {a b c : ℕ} {rest : List ℕ} → IsKnown claims named steps a b → IsChain claims named steps b rest c → IsChain claims named steps a (a ∷ rest) c

-- parts that are the same or equal by a step, place by place
pub record AreEqual (steps : List Derived) (xs ys : List ℕ) : Type 0 where
  pub as_many : length xs ≡ length ys
  pub each : (k : ℕ) → k < length xs → (get_or xs k 0 ≡ get_or ys k 0) ⊎ AreJoinedBy steps (get_or xs k 0) (get_or ys k 0)

-- one head, and equal parts
abbrev pub AreCongruent : List Derived → Option Applied → Option Applied → Type 0
AreCongruent steps (Some s) (Some t) = (s.head ≡ t.head) × AreEqual steps s.parts.items t.parts.items
AreCongruent steps _ _ = ⊥

-- a further step follows from these
abbrev pub Follows : List Applied → List Claim → List ℕ → List Derived → Derived → Type 0
Follows terms claims named steps (Path path) = (a : ℕ) × (b : ℕ) × IsChain claims named steps a path.items b
Follows terms claims named steps (Congruent a b) = AreCongruent steps (slice_get terms a) (slice_get terms b)

-- the claims that are named are of equalities, and each step follows from those before it
pub record IsDerivation (terms : List Applied) (claims : List Claim) (named : List ℕ) (steps : List Derived) : Type 0 where
  pub claimed : (i : ℕ) → Contains named i → (a : ℕ) × (b : ℕ) × (is_claimed claims i a b ≡ true)
  pub each : (n : ℕ) (d : Derived) → slice_get steps n ≡ Some d → Follows terms claims named (take n steps) d

-- the last step makes a and b equal
pub record Explains (terms : List Applied) (claims : List Claim) (a b : ℕ) (chain : Chain) : Type 0 where
  pub derivation : IsDerivation terms claims chain.claims.items chain.steps.items
  pub ends : (before : List Derived) × (step : Derived) × (chain.steps.items ≡ before ++ step ∷ []) × Joins step a b

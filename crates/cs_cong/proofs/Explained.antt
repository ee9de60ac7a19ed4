-- What a chain explains follows from the claims.
use Rattle.std.proofs.Common.{◌≡◌, ℕ, zero, suc, ◌<◌, inl, inr, List, [], ◌∷◌, length, min, take, drop, slice_get, Option, Some, None, refl, sym, ◌∙◌, ap, subst, arith}
use Rattle.std.proofs.lemmas.Bool.{cases_eq}
use Rattle.std.proofs.lemmas.List.{take-append-drop, length-take}
use Rattle.std.proofs.lemmas.Option.{slice_get-get_or}
use Rattle.cs_cong.specs.declared.congruent.Applied.{Applied}
use Rattle.cs_cong.specs.declared.congruent.Claim.{Claim}
use Rattle.cs_cong.specs.declared.explain.Chain.{Chain}
use Rattle.cs_cong.specs.declared.explain.Derived.{Derived}
use Rattle.cs_cong.specs.declared.explain.Derived.TheVariants.{Path, Congruent}
use Rattle.cs_cong.specs.Joined.{Joined, claimed, itself, turned, joined, congruent, AllJoined, no_parts, one_part}
use Rattle.cs_cong.specs.Explained.{Ends, Joins, AreJoinedBy, IsKnown, by_claim, by_step, turned as known_turned, IsChain, alone, linked, AreEqual, AreCongruent, Follows, IsDerivation, Explains}
use Rattle.cs_cong.proofs.Stages.{get_front, get_last}
use Rattle.cs_cong.proofs.Steps.{chain_ends}

same_ends : (xs : List ℕ) (a b c d : ℕ) → Ends xs a b → Ends xs c d → (a ≡ c) × (b ≡ d)
same_ends [] a b c d e f = absurd e
same_ends (x ∷ xs) a b c d e f = (sym e.0 ∙ f.0, sym e.1 ∙ f.1)

-- where the steps before are joined, so is one that follows
module _ (terms : List Applied) (claims : List Claim) (named : List ℕ) (steps : List Derived) (all : (a b : ℕ) → AreJoinedBy steps a b → Joined terms claims a b) where
  known_joined : (a b : ℕ) → IsKnown claims named steps a b → Joined terms claims a b
  known_joined a b (by_claim i in' e) = claimed i e
  known_joined a b (by_step j) = all a b j
  known_joined a b (known_turned h) = turned (known_joined b a h)

  chain_joined : (a b : ℕ) (xs : List ℕ) → IsChain claims named steps a xs b → Joined terms claims a b
  chain_joined a b xs (alone z) = itself z
  chain_joined a b xs (linked {b = y} {rest = rest} k on) = joined (known_joined a y k) (chain_joined y b rest on)

  parts_joined : (xs ys : List ℕ) → AreEqual steps xs ys → AllJoined terms claims xs ys
  parts_joined [] [] e = no_parts
  parts_joined [] (y ∷ ys) e = absurd (let f : 0 ≡ suc (length ys) = e.as_many in omega arith)
  parts_joined (x ∷ xs) [] e = absurd (let f : suc (length xs) ≡ 0 = e.as_many in omega arith)
  parts_joined (x ∷ xs) (y ∷ ys) e =
      one_part
      (elim (e.each 0 (omega arith)) [
        | inl s ↦ subst (Joined terms claims x) s (itself x)
        | inr j ↦ all x y j
      ])
      (parts_joined xs ys record { as_many = (let f : suc (length xs) ≡ suc (length ys) = e.as_many in omega arith); each = λ k lt. e.each (suc k) (omega arith) })

  pub step_joined : (d : Derived) → Follows terms claims named steps d → (a b : ℕ) → Joins d a b → Joined terms claims a b
  step_joined (Path path) f a b j =
      let s = same_ends path.items f.0 f.1 a b (chain_ends claims named steps f.0 f.1 path.items f.2) j in
      subst (λ x. Joined terms claims x b) s.0 (subst (Joined terms claims f.0) s.1 (chain_joined f.0 f.1 path.items f.2))
  step_joined (Congruent x y) f a b j = subst (λ z. Joined terms claims z b) j.0 (subst (Joined terms claims x) j.1 (go (slice_get terms x) (slice_get terms y) refl refl f))
    where
      go : (s t : Option Applied) → slice_get terms x ≡ s → slice_get terms y ≡ t → AreCongruent steps s t → Joined terms claims x y
      go (Some s) (Some t) es et h = congruent s t es et h.0 (parts_joined s.parts.items t.parts.items h.1)
      go None t es et h = absurd h
      go (Some s) None es et h = absurd h

-- a step among the first n
earlier : (terms : List Applied) (claims : List Claim) (steps : List Derived) (n : ℕ) → ((k : ℕ) → k < n → (d : Derived) → slice_get steps k ≡ Some d → (a b : ℕ) → Joins d a b → Joined terms claims a b) →
    (a b : ℕ) → AreJoinedBy (take n steps) a b → Joined terms claims a b
earlier terms claims steps n all a b h =
    let d = h.0 in
    let k = h.1.0 in
    let within : h.1.0 < length (take n steps) = h.1.1 in
    let long : length (take n steps) ≡ min n (length steps) = length-take n steps in
    let at : slice_get (take n steps) k ≡ Some d = slice_get-get_or (take n steps) k d within ∙ ap Some h.1.2 in
    let whole : slice_get steps k ≡ Some d = ap (λ l. slice_get l k) (sym (take-append-drop n steps)) ∙ get_front (take n steps) (drop n steps) k within ∙ at in
    all k (omega (arith, within, long)) d whole a b h.2

steps_joined : (terms : List Applied) (claims : List Claim) (named : List ℕ) (steps : List Derived) → IsDerivation terms claims named steps → (n k : ℕ) → k < n → (d : Derived) → slice_get steps k ≡ Some d → (a b : ℕ) → Joins d a b → Joined terms claims a b
steps_joined terms claims named steps is zero k lt d at a b j = absurd (omega arith)
steps_joined terms claims named steps is (suc n) k lt d at a b j = elim (cases_eq k n) [
  | inl e ↦ step_joined terms claims named (take n steps) (earlier terms claims steps n (steps_joined terms claims named steps is n)) d (is.each n d (ap (slice_get steps) (sym e) ∙ at)) a b j
  | inr o ↦ steps_joined terms claims named steps is n k (omega arith) d at a b j
]

pub explained_are_joined : (terms : List Applied) (claims : List Claim) (a b : ℕ) (chain : Chain) → Explains terms claims a b chain → Joined terms claims a b
explained_are_joined terms claims a b chain e =
    let before = e.ends.0 in
    steps_joined terms claims chain.claims.items chain.steps.items e.derivation (suc (length before)) (length before) (omega arith) e.ends.1 (ap (λ l. slice_get l (length e.ends.0)) e.ends.2 ∙ get_last before e.ends.1) a b e.ends.3

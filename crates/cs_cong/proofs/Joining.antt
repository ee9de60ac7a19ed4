-- What is in one class is what follows from the claims.
use Rattle.std.proofs.Common.{◌≡◌, ℕ, zero, suc, ◌<◌, ◌≤◌, ◌+◌, ◌⊎◌, inl, inr, Bool, true, false, not, nat_eq, cond, ◌&&◌, ◌||◌, List, [], ◌∷◌, length, get_or, slice_get, Option, Some, None, refl, sym, ◌∙◌, ap, ap₂, subst, arith, eq-eqb}
use Rattle.std.proofs.lemmas.Bool.{cases_eq, cases_lt, eqb-true, and_parts}
use Rattle.std.proofs.lemmas.Option.{slice_get_past, slice_get-get_or}
use Rattle.cs_cong.specs.declared.congruent.Applied.{Applied}
use Rattle.cs_cong.specs.declared.congruent.Claim.{Claim}
use Rattle.cs_cong.specs.declared.merges.Merge.{Merge}
use Rattle.cs_cong.specs.declared.merges.Reason.{Reason}
use Rattle.cs_cong.specs.declared.merges.Reason.TheVariants.{Claimed, Congruence}
use Rattle.cs_cong.specs.Merged.{nothing, across, representative, current}
use Rattle.cs_cong.specs.Joined.{is_claimed, Joined, claimed, itself, turned, joined, congruent, AllJoined, no_parts, one_part, all_same, alike, are_congruent, is_reason, AreJustified, denies, AreKept, AreKeptBelow}
use Rattle.cs_cong.specs.Stages.{IsStage}

-- the cases of one more merge: merged before, or across the merge, either way
pub merge_cases : (m : Merge) (f : ℕ → ℕ) (a b : ℕ) → across m f a ≡ across m f b →
    (f a ≡ f b) ⊎ (((f a ≡ f m.left) × (f m.right ≡ f b)) ⊎ ((f a ≡ f m.right) × (f m.left ≡ f b)))
merge_cases m f a b h = go (nat_eq (f a) (f m.left)) (nat_eq (f b) (f m.left)) refl refl h
  where
    go : (p q : Bool) → nat_eq (f a) (f m.left) ≡ p → nat_eq (f b) (f m.left) ≡ q → cond p (f m.right) (f a) ≡ cond q (f m.right) (f b) →
        (f a ≡ f b) ⊎ (((f a ≡ f m.left) × (f m.right ≡ f b)) ⊎ ((f a ≡ f m.right) × (f m.left ≡ f b)))
    go true true ea eb e = inl (eqb-true _ _ ea ∙ sym (eqb-true _ _ eb))
    go true false ea eb e = inr (inl (eqb-true _ _ ea, e))
    go false true ea eb e = inr (inr (e, sym (eqb-true _ _ eb)))
    go false false ea eb e = inl e

all_joined : (terms : List Applied) (claims : List Claim) (f : ℕ → ℕ) → ((a b : ℕ) → f a ≡ f b → Joined terms claims a b) → (xs ys : List ℕ) → all_same f xs ys ≡ true → AllJoined terms claims xs ys
all_joined terms claims f j [] [] e = no_parts
all_joined terms claims f j [] (y ∷ ys) e = absurd (let h : false ≡ true = e in cc)
all_joined terms claims f j (x ∷ xs) [] e = absurd (let h : false ≡ true = e in cc)
all_joined terms claims f j (x ∷ xs) (y ∷ ys) e =
    let p = and_parts (nat_eq (f x) (f y)) (all_same f xs ys) e in
    one_part (j x y (eqb-true _ _ p.0)) (all_joined terms claims f j xs ys p.1)

by_congruence : (terms : List Applied) (claims : List Claim) (f : ℕ → ℕ) → ((a b : ℕ) → f a ≡ f b → Joined terms claims a b) → (a b : ℕ) → are_congruent terms f a b ≡ true → Joined terms claims a b
by_congruence terms claims f j a b e = go (slice_get terms a) (slice_get terms b) refl refl e
  where
    go : (s t : Option Applied) → slice_get terms a ≡ s → slice_get terms b ≡ t → alike f s t ≡ true → Joined terms claims a b
    go (Some s) (Some t) es et h =
        let p = and_parts (nat_eq s.head t.head) (all_same f s.parts.items t.parts.items) h in
        congruent s t es et (eqb-true _ _ p.0) (all_joined terms claims f j s.parts.items t.parts.items p.1)
    go None t es et h = absurd (let g : false ≡ true = h in cc)
    go (Some s) None es et h = absurd (let g : false ≡ true = h in cc)

by_reason : (terms : List Applied) (claims : List Claim) (f : ℕ → ℕ) → ((a b : ℕ) → f a ≡ f b → Joined terms claims a b) → (why : Reason) (a b : ℕ) → is_reason terms claims f why a b ≡ true → Joined terms claims a b
by_reason terms claims f j (Claimed i) a b e = go (is_claimed claims i a b) refl e
  where
    go : (t : Bool) → is_claimed claims i a b ≡ t → (t || is_claimed claims i b a) ≡ true → Joined terms claims a b
    go true is h = claimed i is
    go false is h = turned (claimed i h)
by_reason terms claims f j Congruence a b e = by_congruence terms claims f j a b e

pub merged_are_joined : (terms : List Applied) (claims : List Claim) (log : List Merge) → AreJustified terms claims log → (k : ℕ) → k ≤ length log → (a b : ℕ) → representative log k a ≡ representative log k b → Joined terms claims a b
merged_are_joined terms claims log all zero le a b e = subst (Joined terms claims a) e (itself a)
merged_are_joined terms claims log all (suc k) le a b e =
    let m = get_or log k nothing in
    let f = representative log k in
    let before = merged_are_joined terms claims log all k (omega arith) in
    let one : Joined terms claims m.left m.right = by_reason terms claims f before m.reason m.left m.right (all k (omega arith)) in
    elim (merge_cases m f a b e) [
      | inl s ↦ before a b s
      | inr x ↦ elim x [
        | inl p ↦ joined (before a m.left p.0) (joined one (before m.right b p.1))
        | inr p ↦ joined (before a m.right p.0) (joined (turned one) (before m.left b p.1))
      ]
    ]

mutual
  pub joined_are_merged : (terms : List Applied) (claims : List Claim) (log : List Merge) → IsStage terms claims log → (a b : ℕ) → Joined terms claims a b → current log a ≡ current log b
  joined_are_merged terms claims log s a b (claimed i e) = s.met i a b e
  joined_are_merged terms claims log s a b (itself z) = refl
  joined_are_merged terms claims log s a b (turned h) = sym (joined_are_merged terms claims log s b a h)
  joined_are_merged terms claims log s a b (joined {b = x} h i) = joined_are_merged terms claims log s a x h ∙ joined_are_merged terms claims log s x b i
  joined_are_merged terms claims log s a b (congruent t u at at' head all) =
      s.closed a b (ap₂ (alike (current log)) at at' ∙ ap₂ (λ p q. p && q) (eq-eqb _ _ head) (all_are_merged terms claims log s t.parts.items u.parts.items all))

  all_are_merged : (terms : List Applied) (claims : List Claim) (log : List Merge) → IsStage terms claims log → (xs ys : List ℕ) → AllJoined terms claims xs ys → all_same (current log) xs ys ≡ true
  all_are_merged terms claims log s xs ys no_parts = refl
  all_are_merged terms claims log s xs ys (one_part h rest) = ap₂ (λ p q. p && q) (eq-eqb _ _ (joined_are_merged terms claims log s _ _ h)) (all_are_merged terms claims log s _ _ rest)

-- ---- claims that two terms aren't equal
claim_at : (claims : List Claim) (n : ℕ) (d : Claim) → n < length claims → d ≡ get_or claims n d → slice_get claims n ≡ Some d
claim_at claims n d lt is = slice_get-get_or claims n d lt ∙ ap (λ (x : Claim). Some x) (sym is)

pub denied : (claims : List Claim) (n : ℕ) (d : Claim) → n < length claims → d ≡ get_or claims n d → not d.equal ≡ true → denies (slice_get claims n) d.left d.right ≡ true
denied claims n d lt is e =
    ap (λ o. denies o d.left d.right) (claim_at claims n d lt is)
    ∙ ap (λ b. b && (nat_eq d.left d.left && nat_eq d.right d.right)) e
    ∙ ap₂ (λ p q. p && q) (eq-eqb d.left d.left refl) (eq-eqb d.right d.right refl)

pub kept_more : (terms : List Applied) (claims : List Claim) (n : ℕ) (d : Claim) → n < length claims → d ≡ get_or claims n d → AreKeptBelow terms claims n →
    (not d.equal ≡ true → Joined terms claims d.left d.right → ⊥) → AreKeptBelow terms claims (n + 1)
kept_more terms claims n d lt is all apart i a b below says j = elim (cases_eq i n) [
  | inl e ↦
      let h : denies (Some d) a b ≡ true = sym (ap (λ o. denies o a b) (ap (slice_get claims) e ∙ claim_at claims n d lt is)) ∙ says in
      let p = and_parts (not d.equal) (nat_eq d.left a && nat_eq d.right b) h in
      let q = and_parts (nat_eq d.left a) (nat_eq d.right b) p.1 in
      apart p.0 (subst (λ x. Joined terms claims x d.right) (sym (eqb-true _ _ q.0)) (subst (Joined terms claims a) (sym (eqb-true _ _ q.1)) j))
  | inr o ↦ all i a b (omega arith) says j
]

pub kept_all : (terms : List Applied) (claims : List Claim) (n : ℕ) → length claims ≤ n → AreKeptBelow terms claims n → AreKept terms claims
kept_all terms claims n le all i a b says j = elim (cases_lt i (length claims)) [
  | inl lt ↦ all i a b (omega arith) says j
  | inr past ↦ absurd (let g : false ≡ true = sym (ap (λ o. denies o a b) (slice_get_past claims i past)) ∙ says in cc)
]

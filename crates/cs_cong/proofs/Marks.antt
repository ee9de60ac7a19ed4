-- Marks of merges.
use Rattle.std.proofs.Common.{◌≡◌, ℕ, ◌<◌, ◌≤◌, inl, inr, true, false, List, [], ◌∷◌, length, refl, sym, ◌∙◌, ap, subst, arith}
use Rattle.std.specs.BTreeSet.{BTreeSet, IsLowerBound, Updates}
use Rattle.std.specs.BTreeMap.{is_at}
use Rattle.std.specs.List.{list_any}
use Rattle.std.specs.Ordering.{nat_cmp, MatchOrdering, is_eq}
use Rattle.std.specs.declared.cmp.Ordering.{Ordering}
use Rattle.std.specs.declared.cmp.Ordering.TheVariants.{Less, Equal, Greater}
use Rattle.std.proofs.lemmas.Bool.{cases_eq, cases_lt, false_from_ne_true}
use Rattle.std.proofs.lemmas.Cmp.{ranked}
use Rattle.std.proofs.lemmas.List.Elements.{All-weaker}
use Rattle.std.proofs.lemmas.Map.Keys.{le_from_not_gt}
use Rattle.cs_cong.specs.declared.congruent.Applied.{Applied}
use Rattle.cs_cong.specs.declared.merges.Merge.{Merge}
use Rattle.cs_cong.specs.declared.paths.Edge.{Edge}
use Rattle.cs_cong.specs.Marked.{is_marked, Marked}
use Rattle.cs_cong.specs.Needed.{AreMarked, IsBacked, AreBacked}

-- ---- numbers in order
pub other_at : (a b : ℕ) → (b ≡ a → ⊥) → is_at (nat_cmp a) b ≡ false
other_at a b n = go (nat_cmp a b) (ranked a b (nat_cmp a b) refl)
  where
    go : (r : Ordering) → MatchOrdering r (a < b) (a ≡ b) (b < a) → is_eq r ≡ false
    go Less lt = refl
    go Equal e = absurd (n (sym e))
    go Greater lt = refl

-- below the first one there is none
pub first_is : (marks : BTreeSet ℕ) (at k : ℕ) → IsLowerBound nat_cmp marks at → k < at → is_marked marks k ≡ false
first_is marks at k least lt = false_from_ne_true (is_marked marks k) (λ e. let le = le_from_not_gt at k (least k e) in omega arith)

-- ---- marks
pub marked_on : (t : ℕ) (a b c : BTreeSet ℕ) → Marked t a b → Marked t b c → Marked t a c
marked_on t a b c m n = record {
  kept = λ k e. n.kept k (m.kept k e);
  later = λ k le. n.later k le ∙ m.later k le;
}

pub still_marked : (t : ℕ) (old new : BTreeSet ℕ) → Marked t old new → (es : List Edge) → AreMarked old es → AreMarked new es
still_marked t old new m es all = All-weaker (λ (e : Edge). is_marked old e.merge ≡ true) (λ (e : Edge). is_marked new e.merge ≡ true) (λ e. m.kept e.merge) es all

still_backed : (t : ℕ) (terms : List Applied) (log : List Merge) (old new : BTreeSet ℕ) → Marked t old new → (k : ℕ) → IsBacked terms log old k → IsBacked terms log new k
still_backed t terms log old new m k b s u why at bt j lt = still_marked t old new m _ (b s u why at bt j lt)

-- the next merge down has marked what it needs
pub backed_next : (terms : List Applied) (log : List Merge) (old new : BTreeSet ℕ) (at time : ℕ) → Marked at old new → IsBacked terms log new at → ((k : ℕ) → at < k → k < time → is_marked old k ≡ false) → AreBacked terms log old time → AreBacked terms log new at
backed_next terms log old new at time m b none all k le lt e = elim (cases_eq k at) [
  | inl is ↦ subst (IsBacked terms log new) (sym is) b
  | inr other ↦
      let before : is_marked old k ≡ true = sym (m.later k le) ∙ e in
      elim (cases_lt k time) [
        | inl sooner ↦ absurd (let f : false ≡ true = sym (none k (omega arith) sooner) ∙ before in cc)
        | inr later ↦ still_backed at terms log old new m k (all k later lt before)
      ]
]

-- none is left
pub backed_end : (terms : List Applied) (log : List Merge) (marks : BTreeSet ℕ) (time : ℕ) → ((k : ℕ) → k < time → is_marked marks k ≡ false) → AreBacked terms log marks time → AreBacked terms log marks 0
backed_end terms log marks time none all k le lt e = elim (cases_lt k time) [
  | inl sooner ↦ absurd (let f : false ≡ true = sym (none k sooner) ∙ e in cc)
  | inr later ↦ all k later lt e
]

-- ---- one that is taken out
pub fewer_left : (marks rest left : BTreeSet ℕ) (at : ℕ) → Updates nat_cmp rest left at false → ((k : ℕ) → is_marked rest k ≡ true → is_marked marks k ≡ true) → (k : ℕ) → is_marked left k ≡ true → is_marked marks k ≡ true
fewer_left marks rest left at taken fewer k e = elim (cases_eq k at) [
  | inl is ↦ absurd (let f : false ≡ true = sym taken.1 ∙ ap (is_marked left) (sym is) ∙ e in cc)
  | inr o ↦ fewer k (sym (taken.2 k (other_at at k o)) ∙ e)
]

pub none_left : (marks : BTreeSet ℕ) → (0 < length marks.keys → ⊥) → (k : ℕ) → is_marked marks k ≡ false
none_left marks n k = go marks.keys n
  where
    go : (ks : List ℕ) → (0 < length ks → ⊥) → list_any (is_at (nat_cmp k)) ks ≡ false
    go [] m = refl
    go (x ∷ xs) m = absurd (m (omega arith))

pub marked_within : (marks : BTreeSet ℕ) (n at : ℕ) → ((k : ℕ) → n ≤ k → is_marked marks k ≡ false) → is_marked marks at ≡ true → at < n
marked_within marks n at none e = elim (cases_lt at n) [
  | inl lt ↦ lt
  | inr le ↦ absurd (let f : false ≡ true = sym (none at le) ∙ e in cc)
]

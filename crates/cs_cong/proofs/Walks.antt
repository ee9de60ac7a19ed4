-- Walks along merges lead from their first term to their last.
use Rattle.std.proofs.Common.{◌≡◌, ℕ, zero, suc, ◌<◌, ◌≤◌, inl, inr, true, false, nat_eq, List, [], ◌∷◌, ◌++◌, length, get_or, refl, sym, ◌∙◌, ap, subst, arith, eq-eqb, ne_eqb, append_assoc}
use Rattle.std.proofs.lemmas.List.{get_or_default}
use Rattle.std.proofs.lemmas.Bool.{cases_eq, cond-true, cond-false}
use Rattle.cs_cong.specs.declared.merges.Merge.{Merge}
use Rattle.cs_cong.specs.declared.merges.Link.{Link}
use Rattle.cs_cong.specs.declared.paths.Edge.{Edge}
use Rattle.cs_cong.specs.Merged.{nothing, representative}
use Rattle.cs_cong.specs.Trees.{never, link_at, IsTree}
use Rattle.cs_cong.specs.Walks.{IsParting, walk, Leads, arrived, goes}
use Rattle.cs_cong.proofs.Times.{same_later}
use Rattle.cs_cong.proofs.Joining.{merge_cases}
use Rattle.cs_cong.proofs.Trees.{at_link}

pub walk_self : (log : List Merge) (k a b : ℕ) → a ≡ b → walk log k a b ≡ []
walk_self log zero a b e = refl
walk_self log (suc k) a b e = cond-true (nat_eq (representative log k a) (representative log k b)) _ _ (eq-eqb _ _ (ap (representative log k) e)) ∙ walk_self log k a b e

-- the last merge that joined the two decides
pub walk_jump : (log : List Merge) (t a b : ℕ) → representative log (suc t) a ≡ representative log (suc t) b → (k : ℕ) → t < k → walk log k a b ≡ walk log (suc t) a b
walk_jump log t a b e zero lt = absurd (omega arith)
walk_jump log t a b e (suc k) lt = elim (cases_eq k t) [
  | inl is ↦ ap (λ n. walk log (suc n) a b) is
  | inr n ↦
      cond-true (nat_eq (representative log k a) (representative log k b)) _ _ (eq-eqb _ _ (same_later log (suc t) a b e k (omega arith)))
      ∙ walk_jump log t a b e k (omega arith)
]

pub walk_forth : (log : List Merge) (time a b t : ℕ) → IsParting log time a b t → representative log t a ≡ representative log t (get_or log t nothing).left →
    walk log time a b ≡ walk log t a (get_or log t nothing).left ++ record { merge = t; forward = true } ∷ walk log t (get_or log t nothing).right b
walk_forth log time a b t p e =
    walk_jump log t a b p.together time p.before
    ∙ cond-false (nat_eq (representative log t a) (representative log t b)) _ _ (ne_eqb _ _ p.apart)
    ∙ cond-true (nat_eq (representative log t a) (representative log t (get_or log t nothing).left)) _ _ (eq-eqb _ _ e)

pub walk_back : (log : List Merge) (time a b t : ℕ) → IsParting log time a b t → (representative log t a ≡ representative log t (get_or log t nothing).left → ⊥) →
    walk log time a b ≡ walk log t a (get_or log t nothing).right ++ record { merge = t; forward = false } ∷ walk log t (get_or log t nothing).left b
walk_back log time a b t p n =
    walk_jump log t a b p.together time p.before
    ∙ cond-false (nat_eq (representative log t a) (representative log t b)) _ _ (ne_eqb _ _ p.apart)
    ∙ cond-false (nat_eq (representative log t a) (representative log t (get_or log t nothing).left)) _ _ (ne_eqb _ _ n)

pub right_joined : (log : List Merge) (time a b t : ℕ) → IsParting log time a b t → representative log t a ≡ representative log t (get_or log t nothing).left → representative log t (get_or log t nothing).right ≡ representative log t b
right_joined log time a b t p e = elim (merge_cases (get_or log t nothing) (representative log t) a b p.together) [
  | inl s ↦ absurd (p.apart s)
  | inr x ↦ elim x [
    | inl q ↦ q.1
    | inr q ↦ absurd (p.apart (e ∙ q.1))
  ]
]

pub left_joined : (log : List Merge) (time a b t : ℕ) → IsParting log time a b t → (representative log t a ≡ representative log t (get_or log t nothing).left → ⊥) →
    (representative log t a ≡ representative log t (get_or log t nothing).right) × (representative log t (get_or log t nothing).left ≡ representative log t b)
left_joined log time a b t p n = elim (merge_cases (get_or log t nothing) (representative log t) a b p.together) [
  | inl s ↦ absurd (p.apart s)
  | inr x ↦ elim x [
    | inl q ↦ absurd (n q.0)
    | inr q ↦ q
  ]
]

-- the representative stays from one time to a later one, where it leads on later
module _ (log : List Merge) (links : List Link) (is : IsTree log links) where
  pub still : (a x c t : ℕ) → x < length links → representative log c a ≡ x → c ≤ t → t ≤ (link_at links x).time → representative log t a ≡ x
  still a x c t lt e ct tx =
      same_later log c a x (e ∙ sym (is.stays x c lt (omega arith))) t ct ∙ is.stays x t lt tx

  pub moved : (a x c : ℕ) → x < length links → representative log c a ≡ x → c ≤ (link_at links x).time → (link_at links x).time < never → representative log (suc (link_at links x).time) a ≡ (link_at links x).to
  moved a x c lt e ct below =
      same_later log c a x (e ∙ sym (is.stays x c lt ct)) (suc (link_at links x).time) (omega arith) ∙ (is.moves x lt below).there

  pub after_moved : (at when : ℕ) (l : Link) → at < length links → l ≡ get_or links at l → l.time ≤ when → when ≤ (link_at links at).time → when < never →
      (l.to < length links) × (representative log (suc when) at ≡ l.to) × (suc when ≤ (link_at links l.to).time)
  after_moved at when l lt read le stays some =
      let e : l ≡ link_at links at = at_link links at l lt read in
      let time : l.time ≡ (link_at links at).time = ap (λ (x : Link). x.time) e in
      let same : when ≡ (link_at links at).time = omega arith in
      let m = is.moves at lt (omega arith) in
      let goes : l.to ≡ (link_at links at).to = ap (λ (x : Link). x.to) e in (
        (let t = m.target in omega arith),
        ap (λ t. representative log (suc t) at) same ∙ m.there ∙ sym goes,
        (let f : (link_at links l.to).time ≡ (link_at links (link_at links at).to).time = ap (λ x. (link_at links x).time) goes in let g = m.later in omega arith),
      )

  pub after_stays : (at when : ℕ) (l : Link) → at < length links → l ≡ get_or links at l → when < l.time → (representative log (suc when) at ≡ at) × (suc when ≤ (link_at links at).time)
  after_stays at when l lt read later =
      let e : l ≡ link_at links at = at_link links at l lt read in
      let time : l.time ≡ (link_at links at).time = ap (λ (x : Link). x.time) e in
      (is.stays at (suc when) lt (omega arith), omega arith)

  -- what a term's representative was once, it is again
  pub comes : (a x c k : ℕ) → x < length links → representative log c a ≡ x → c ≤ (link_at links x).time → c ≤ k → representative log k a ≡ representative log k x
  comes a x c k lt e ct ck = same_later log c a x (e ∙ sym (is.stays x c lt ct)) k ck

pub put_together : (all one two : List Edge) (e : Edge) → all ++ one ++ e ∷ [] ++ two ≡ all ++ (one ++ e ∷ two)
put_together all one two e = append_assoc (all ++ one) (e ∷ []) two ∙ append_assoc all one (e ∷ two)

pub read_merge : (log : List Merge) (t : ℕ) (m : Merge) → t < length log → m ≡ get_or log t m → m ≡ get_or log t nothing
read_merge log t m lt e = e ∙ get_or_default log t m nothing lt

-- a walk leads from its first term to its last
leads_on : (log : List Merge) (j k a b c : ℕ) (es fs : List Edge) → j ≤ k → Leads log j a es b → Leads log k b fs c → Leads log k a (es ++ fs) c
leads_on log j k a b c es fs le (arrived z) w = w
leads_on log j k a b c es fs le (goes {es = rest} e lt on) w = goes e (omega arith) (leads_on log j k _ b c rest fs le on w)

later : (log : List Merge) (j k a b : ℕ) (es : List Edge) → j ≤ k → Leads log j a es b → Leads log k a es b
later log j k a b es le (arrived z) = arrived z
later log j k a b es le (goes {es = rest} e lt on) = goes e (omega arith) (later log j k _ b rest le on)

pub walk_leads : (log : List Merge) (k a b : ℕ) → representative log k a ≡ representative log k b → Leads log k a (walk log k a b) b
walk_leads log zero a b e = subst (Leads log zero a []) e (arrived a)
walk_leads log (suc k) a b e = elim (cases_eq (representative log k a) (representative log k b)) [
  | inl same ↦ subst (λ es. Leads log (suc k) a es b) (sym (cond-true (nat_eq (representative log k a) (representative log k b)) _ _ (eq-eqb _ _ same))) (later log k (suc k) a b _ (omega arith) (walk_leads log k a b same))
  | inr apart ↦
      let m = get_or log k nothing in
      let p : IsParting log (suc k) a b k = record { before = omega arith; apart = apart; together = e } in
      elim (cases_eq (representative log k a) (representative log k m.left)) [
        | inl here ↦
            subst (λ es. Leads log (suc k) a es b) (sym (cond-false (nat_eq (representative log k a) (representative log k b)) _ _ (ne_eqb _ _ apart) ∙ cond-true (nat_eq (representative log k a) (representative log k m.left)) _ _ (eq-eqb _ _ here)))
            (leads_on log k (suc k) a m.left b _ _ (omega arith) (walk_leads log k a m.left here)
            (goes record { merge = k; forward = true } (omega arith) (later log k (suc k) m.right b _ (omega arith) (walk_leads log k m.right b (right_joined log (suc k) a b k p here)))))
        | inr there ↦
            let j = left_joined log (suc k) a b k p there in
            subst (λ es. Leads log (suc k) a es b) (sym (cond-false (nat_eq (representative log k a) (representative log k b)) _ _ (ne_eqb _ _ apart) ∙ cond-false (nat_eq (representative log k a) (representative log k m.left)) _ _ (ne_eqb _ _ there)))
            (leads_on log k (suc k) a m.right b _ _ (omega arith) (walk_leads log k a m.right j.0)
            (goes record { merge = k; forward = false } (omega arith) (later log k (suc k) m.left b _ (omega arith) (walk_leads log k m.left b j.1))))
      ]
]

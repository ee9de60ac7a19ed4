-- What goes on to parts holds of all subterms.
use Rattle.std.proofs.Common.{◌≡◌, inl, inr, zero, suc, List, [], ◌∷◌, ◌++◌, Some, refl, sym, subst}
use Rattle.std.proofs.lemmas.Option.{same_Some}
use Rattle.vx_terms.specs.Sorts.{Sort, Symbol}
use Rattle.vx_terms.specs.Terms.{Term, Truth, Number, Part, Constant, Apply, Not, Binary, Ite, AllOf, SomeOf, Terms, NoTerms, MoreTerms}
use Rattle.vx_terms.specs.Interpretations.{Each}
use Rattle.cs_certificate.specs.Terms.{items, parts, subterms, all_subterms, parts_of, numbered}
use Rattle.cs_certificate.specs.Certificate.{Stack, Contains, AreLive, AllLive}
use Rattle.cs_numbers.proofs.Added.{added_distinct}
use Rattle.cs_numbers.proofs.Numbered.{in_either, from_added}
use Rattle.cs_writable.specs.Writable.{IsWritableTerm, AreWritableTerms}
use Rattle.cs_ground.specs.Ground.{IsFormed}

-- ---- a property that goes on to parts
module _ (P : Term → Type 0) (down : (t p : Term) → P t → Contains (parts t) p → P p) where
  itself : (t u : Term) → P t → Some t ≡ Some u → P u
  itself t u h e = subst P (same_Some _ _ e) h

  mutual
    pub in_subterms : (t u : Term) → P t → Contains (subterms t) u → P u
    in_subterms (Truth b) u h (zero, e) = itself (Truth b) u h e
    in_subterms (Truth b) u h (suc n, e) = cc
    in_subterms (Number z) u h (zero, e) = itself (Number z) u h e
    in_subterms (Number z) u h (suc n, e) = cc
    in_subterms (Part a) u h (zero, e) = itself (Part a) u h e
    in_subterms (Part a) u h (suc n, e) = cc
    in_subterms (Constant f a) u h (zero, e) = itself (Constant f a) u h e
    in_subterms (Constant f a) u h (suc n, e) = cc
    in_subterms (Apply f a ts) u h (zero, e) = itself (Apply f a ts) u h e
    in_subterms (Apply f a ts) u h (suc n, e) = in_all ts u (λ p k. down (Apply f a ts) p h k) (n, e)
    in_subterms (Not t) u h (zero, e) = itself (Not t) u h e
    in_subterms (Not t) u h (suc n, e) = in_subterms t u (down (Not t) t h (0, refl)) (n, e)
    in_subterms (Binary o t v) u h (zero, e) = itself (Binary o t v) u h e
    in_subterms (Binary o t v) u h (suc n, e) = elim (in_either (subterms t) (subterms v) u (n, e)) [
      | inl x ↦ in_subterms t u (down (Binary o t v) t h (0, refl)) x
      | inr x ↦ in_subterms v u (down (Binary o t v) v h (1, refl)) x
    ]
    in_subterms (Ite c t v) u h (zero, e) = itself (Ite c t v) u h e
    in_subterms (Ite c t v) u h (suc n, e) = elim (in_either (subterms c) (subterms t ++ subterms v) u (n, e)) [
      | inl x ↦ in_subterms c u (down (Ite c t v) c h (0, refl)) x
      | inr x ↦ elim (in_either (subterms t) (subterms v) u x) [
        | inl y ↦ in_subterms t u (down (Ite c t v) t h (1, refl)) y
        | inr y ↦ in_subterms v u (down (Ite c t v) v h (2, refl)) y
      ]
    ]
    in_subterms (AllOf ts) u h (zero, e) = itself (AllOf ts) u h e
    in_subterms (AllOf ts) u h (suc n, e) = in_all ts u (λ p k. down (AllOf ts) p h k) (n, e)
    in_subterms (SomeOf ts) u h (zero, e) = itself (SomeOf ts) u h e
    in_subterms (SomeOf ts) u h (suc n, e) = in_all ts u (λ p k. down (SomeOf ts) p h k) (n, e)

    in_all : (ts : Terms) (u : Term) → ((p : Term) → Contains (items ts) p → P p) → Contains (all_subterms ts) u → P u
    in_all NoTerms u h (n, e) = cc
    in_all (MoreTerms t ts) u h k = elim (in_either (subterms t) (all_subterms ts) u k) [
      | inl x ↦ in_subterms t u (h t (0, refl)) x
      | inr x ↦ in_all ts u (λ p c. h p (suc c.0, c.1)) x
    ]

  pub in_parts : (ts : List Term) (u : Term) → Each P ts → Contains (parts_of ts) u → P u
  in_parts [] u h (n, e) = cc
  in_parts (t ∷ ts) u h k = elim (in_either (subterms t) (parts_of ts) u k) [ inl x ↦ in_subterms t u h.0 x | inr x ↦ in_parts ts u h.1 x ]

-- ---- parts of terms over the live symbols are over them
module _ (stack : Stack) where
  items_live : (ts : Terms) (p : Term) → AllLive stack ts → Contains (items ts) p → AreLive stack p
  items_live NoTerms p h (n, e) = cc
  items_live (MoreTerms t ts) p h (zero, e) = subst (AreLive stack) (same_Some _ _ e) h.0
  items_live (MoreTerms t ts) p h (suc n, e) = items_live ts p h.1 (n, e)

  pub live_part : (t p : Term) → AreLive stack t → Contains (parts t) p → AreLive stack p
  live_part (Truth b) p h (n, e) = cc
  live_part (Number z) p h (n, e) = cc
  live_part (Part a) p h (n, e) = cc
  live_part (Constant f a) p h (n, e) = cc
  live_part (Apply f a ts) p h k = items_live ts p h.1 k
  live_part (Not t) p h (zero, e) = subst (AreLive stack) (same_Some _ _ e) h
  live_part (Not t) p h (suc n, e) = cc
  live_part (Binary o t u) p h (zero, e) = subst (AreLive stack) (same_Some _ _ e) h.0
  live_part (Binary o t u) p h (suc zero, e) = subst (AreLive stack) (same_Some _ _ e) h.1
  live_part (Binary o t u) p h (suc (suc n), e) = cc
  live_part (Ite c t u) p h (zero, e) = subst (AreLive stack) (same_Some _ _ e) h.0
  live_part (Ite c t u) p h (suc zero, e) = subst (AreLive stack) (same_Some _ _ e) h.1
  live_part (Ite c t u) p h (suc (suc zero), e) = subst (AreLive stack) (same_Some _ _ e) h.2
  live_part (Ite c t u) p h (suc (suc (suc n)), e) = cc
  live_part (AllOf ts) p h k = items_live ts p h k
  live_part (SomeOf ts) p h k = items_live ts p h k

-- ---- parts of writable terms are writable
items_writable : (ts : Terms) (p : Term) → AreWritableTerms ts → Contains (items ts) p → IsWritableTerm p
items_writable NoTerms p h (n, e) = cc
items_writable (MoreTerms t ts) p h (zero, e) = subst IsWritableTerm (same_Some _ _ e) h.0
items_writable (MoreTerms t ts) p h (suc n, e) = items_writable ts p h.1 (n, e)

pub writable_part : (t p : Term) → IsWritableTerm t → Contains (parts t) p → IsWritableTerm p
writable_part (Truth b) p h (n, e) = cc
writable_part (Number z) p h (n, e) = cc
writable_part (Part a) p h (n, e) = cc
writable_part (Constant f a) p h (n, e) = cc
writable_part (Apply f a ts) p h k = items_writable ts p h.1 k
writable_part (Not t) p h (zero, e) = subst IsWritableTerm (same_Some _ _ e) h
writable_part (Not t) p h (suc n, e) = cc
writable_part (Binary o t u) p h (zero, e) = subst IsWritableTerm (same_Some _ _ e) h.0
writable_part (Binary o t u) p h (suc zero, e) = subst IsWritableTerm (same_Some _ _ e) h.1
writable_part (Binary o t u) p h (suc (suc n), e) = cc
writable_part (Ite c t u) p h (zero, e) = subst IsWritableTerm (same_Some _ _ e) h.0
writable_part (Ite c t u) p h (suc zero, e) = subst IsWritableTerm (same_Some _ _ e) h.1
writable_part (Ite c t u) p h (suc (suc zero), e) = subst IsWritableTerm (same_Some _ _ e) h.2
writable_part (Ite c t u) p h (suc (suc (suc n)), e) = cc
writable_part (AllOf ts) p h k = items_writable ts p h.1 k
writable_part (SomeOf ts) p h k = items_writable ts p h.1 k

-- ---- the terms of the assertions
pub numbered_part : (ts : List Term) (t : Term) → Contains (numbered ts) t → Contains (parts_of ts) t
numbered_part ts t h = elim (from_added [] (parts_of ts) t (subst (λ us. Contains us t) (sym (added_distinct (parts_of ts))) h)) [ inl x ↦ (let e = x.1 in cc) | inr x ↦ x ]

-- each application has arguments
pub applied : (stack : Stack) → IsFormed stack → (f : Symbol) (a : Sort) → ¬ (Contains (numbered stack.assertions) (Apply f a NoTerms))
applied stack formed f a h =
    let writable = in_parts IsWritableTerm writable_part stack.assertions (Apply f a NoTerms) formed.writable (numbered_part stack.assertions (Apply f a NoTerms) h) in
    let none = writable.0 in cc

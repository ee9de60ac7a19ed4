-- Terms of one sort, and their equalities.
use Rattle.std.proofs.Common.{◌≡◌, ◌⊎◌, inl, inr, ℕ, zero, suc, ◌+◌, ◌<◌, ◌≤◌, Bool, true, false, List, [], ◌∷◌, refl, sym, ◌∙◌, ap, subst, arith}
use Rattle.std.proofs.lemmas.Option.{same_Some}
use Rattle.vx_terms.specs.Sorts.{BoolSort, Equal, same_sort}
use Rattle.vx_terms.specs.Terms.{Term, same, sort_of}
use Rattle.vx_terms.specs.Formed.{Formed, binary}
use Rattle.vx_terms.proofs.Same.{sort_is, term_is}
use Rattle.vx_terms.proofs.Values.{sort_of_formed, formed_le}
use Rattle.cs_certificate.specs.Terms.{equal, HasSort}
use Rattle.cs_certificate.specs.Certificate.{State, At, IsEquality, Equates}
use Rattle.cs_certificate.proofs.Heads.{sort_same}
use Rattle.cs_numbers.specs.Laws.{IsSorted}
use Rattle.cs_numbers.proofs.Itself.{term_same}
use Rattle.cs_ground.specs.Ground.{AreOfOneSort, IsEquated}
use Rattle.cs_ground.specs.Steps.{have_one_sort, HasEquality}

-- ---- the test
pub same_told : (x y : Term) → AreOfOneSort x y → have_one_sort x y ≡ true
same_told x y (a, h, k) = ap (λ s. same_sort s (sort_of y)) (sort_of_formed h.1) ∙ ap (same_sort a) (sort_of_formed k.1) ∙ sort_same a

pub one_sort : (x y : Term) → IsSorted x → IsSorted y → have_one_sort x y ≡ true → AreOfOneSort x y
one_sort x y (a, (m, f)) (b, (n, g)) e =
    let one : b ≡ a = sym (sort_of_formed g) ∙ sym (sort_is (sort_of x) (sort_of y) e) ∙ sort_of_formed f in
    (a, (m, f), (n, subst (Formed n y) one g))

pub sorts_turned : (x y : Term) → AreOfOneSort x y → AreOfOneSort y x
sorts_turned x y (a, h, k) = (a, k, h)

-- ---- equalities are Bool, of sides of one sort
pub equality_sorted : (x y : Term) → AreOfOneSort x y → HasSort (equal x y) BoolSort
equality_sorted x y (a, (m, f), (n, g)) =
    let left : m ≤ m + n = omega arith in
    let right : n ≤ m + n = omega arith in
    (m + n, binary {o = Equal} tt (formed_le left f) (formed_le right g))

pub equality_bool : (x y : Term) → IsSorted (equal x y) → HasSort (equal x y) BoolSort
equality_bool x y (a, (n, binary {o = Equal} h f g)) = (n, binary {o = Equal} h f g)

pub sides_sorted : (x y : Term) → IsSorted (equal x y) → AreOfOneSort x y
sides_sorted x y (a, (n, binary {o = Equal} {a = s} h f g)) = (s, (n, f), (n, g))

-- ---- order
pub equality_turned : (x y e : Term) → IsEquality x y e → IsEquality y x e
equality_turned x y e (inl h) = inr h
equality_turned x y e (inr h) = inl h

pub turned : (terms : List Term) (x y : Term) → HasEquality terms x y → HasEquality terms y x
turned terms x y (e, is, here) = (e, equality_turned x y e is, here)

pub equates_turned : (s : State) (a b e : Term) → Equates s a b e → Equates s b a e
equates_turned s a b e q = record {
  number = q.number;
  here = q.here;
  equality = equality_turned a b e q.equality;
  first = λ m f lt at is. q.first m f lt at (equality_turned b a f is);
}

-- two terms are one, or differ
pub one_or_two : (t u : Term) → (t ≡ u) ⊎ ¬ (t ≡ u)
one_or_two t u = go (same t u) refl
  where
    go : (b : Bool) → same t u ≡ b → (t ≡ u) ⊎ ¬ (t ≡ u)
    go true e = inl (term_is t u e)
    go false e = inr (λ h. let s : same t u ≡ true = subst (λ v. same t v ≡ true) h (term_same t) in let f : true ≡ false = sym s ∙ e in cc)

-- ---- the first of two equalities
is_equality : (x y e : Term) → IsEquality x y e ⊎ ¬ (IsEquality x y e)
is_equality x y e = elim (one_or_two e (equal x y)) [
  | inl h ↦ inl (inl h)
  | inr h ↦ elim (one_or_two e (equal y x)) [ inl k ↦ inl (inr k) | inr k ↦ inr (λ d. elim d [ inl l ↦ h l | inr l ↦ k l ]) ]
]

record HasFirst (terms : List Term) (x y : Term) : Type 0 where
  number : ℕ
  equality : Term
  here : At terms number equality
  is : IsEquality x y equality
  first : (m : ℕ) (f : Term) → m < number → At terms m f → IsEquality x y f → ⊥

first_later : (t : Term) (ts : List Term) (x y : Term) → ¬ (IsEquality x y t) → HasFirst ts x y → HasFirst (t ∷ ts) x y
first_later t ts x y h r = record { number = suc r.number; equality = r.equality; here = r.here; is = r.is; first = first }
  where
    first : (m : ℕ) (f : Term) → m < suc r.number → At (t ∷ ts) m f → IsEquality x y f → ⊥
    first zero f lt p q = h (subst (IsEquality x y) (sym (same_Some _ _ p)) q)
    first (suc m) f lt p q = r.first m f (omega arith) p q

first_of : (terms : List Term) (x y e : Term) → IsEquality x y e → (n : ℕ) → At terms n e → HasFirst terms x y
first_of [] x y e is n at = cc
first_of (t ∷ ts) x y e is zero at = record { number = 0; equality = t; here = refl; is = subst (IsEquality x y) (sym (same_Some _ _ at)) is; first = λ m f lt p q. omega arith }
first_of (t ∷ ts) x y e is (suc n) at = elim (is_equality x y t) [
  | inl h ↦ record { number = 0; equality = t; here = refl; is = h; first = λ m f lt p q. omega arith }
  | inr h ↦ first_later t ts x y h (first_of ts x y e is n at)
]

pub equated : (s : State) (x y : Term) → HasEquality s.terms x y → IsEquated s x y
equated s x y h = let f = first_of s.terms x y h.0 h.1 (h.2).0 (h.2).1 in (f.equality, record { number = f.number; here = f.here; equality = f.is; first = f.first })

-- Numbered equalities, and which terms they make the same.
use Rattle.std.proofs.Common.{◌≡◌, ◌⊎◌, inl, inr, ℕ, zero, suc, ◌<◌, true, List, [], ◌∷◌, refl, sym, subst, arith}
use Rattle.std.proofs.lemmas.Option.{same_Some}
use Rattle.vx_terms.specs.Terms.{Term}
use Rattle.cs_certificate.specs.Terms.{equal}
use Rattle.cs_certificate.specs.Certificate.{State, At, Contains, IsEquality, Equates}
use Rattle.cs_classes.specs.Elements.{Assignment}
use Rattle.cs_ground.specs.Ground.{IsEquated}
use Rattle.cs_ground.specs.Classed.{AreSame, identical, equated}
use Rattle.cs_ground.proofs.Members.{one_or_two}

-- ---- order
-- an equality of two terms is one in the other order
pub equality_turned : (x y e : Term) → IsEquality x y e → IsEquality y x e
equality_turned x y e (inl h) = inr h
equality_turned x y e (inr h) = inl h

-- so is the one that is numbered first
pub equates_turned : (s : State) (x y e : Term) → Equates s x y e → Equates s y x e
equates_turned s x y e q = record {
  number = q.number;
  here = q.here;
  equality = equality_turned x y e q.equality;
  first = λ m f lt at is. q.first m f lt at (equality_turned y x f is);
}

-- what is the same is so in the other order
pub same_turned : (s : State) (v : Assignment) (x y : Term) → AreSame s v x y → AreSame s v y x
same_turned s v _ _ (identical x) = identical x
same_turned s v _ _ (equated x y e q h) = equated y x e (equates_turned s x y e q) h

-- ---- a true equality
-- the equality of two terms, which is true
pub record IsTrueEquality (s : State) (v : Assignment) (x y : Term) : Type 0 where
  pub equality : Term
  pub equates : Equates s x y equality
  pub holds : v.truth equality ≡ true

-- terms that are the same and differ have one
pub by_equality : (s : State) (v : Assignment) (x y : Term) → ¬ (x ≡ y) → AreSame s v x y → IsTrueEquality s v x y
by_equality s v _ _ differ (identical x) = absurd (differ refl)
by_equality s v _ _ differ (equated x y e q h) = record { equality = e; equates = q; holds = h }

-- ---- the first of two equalities
-- a term is an equality of two terms, or not
is_equality : (x y e : Term) → IsEquality x y e ⊎ ¬ (IsEquality x y e)
is_equality x y e = elim (one_or_two e (equal x y)) [
  | inl h ↦ inl (inl h)
  | inr h ↦ elim (one_or_two e (equal y x)) [ inl k ↦ inl (inr k) | inr k ↦ inr (λ d. elim d [ inl l ↦ h l | inr l ↦ k l ]) ]
]

-- some place has an equality of them, and no place before
record HasFirst (terms : List Term) (x y : Term) : Type 0 where
  number : ℕ
  equality : Term
  here : At terms number equality
  is : IsEquality x y equality
  first : (m : ℕ) (f : Term) → m < number → At terms m f → IsEquality x y f → ⊥

-- a term before that is none moves it on
first_later : (t : Term) (ts : List Term) (x y : Term) → ¬ (IsEquality x y t) → HasFirst ts x y → HasFirst (t ∷ ts) x y
first_later t ts x y h r = record { number = suc r.number; equality = r.equality; here = r.here; is = r.is; first = first }
  where
    first : (m : ℕ) (f : Term) → m < suc r.number → At (t ∷ ts) m f → IsEquality x y f → ⊥
    first zero f lt p q = h (subst (IsEquality x y) (sym (same_Some _ _ p)) q)
    first (suc m) f lt p q = r.first m f (omega arith) p q

-- where there is an equality, there is a first one
first_of : (terms : List Term) (x y e : Term) → IsEquality x y e → (n : ℕ) → At terms n e → HasFirst terms x y
first_of [] x y e is n at = cc
first_of (t ∷ ts) x y e is zero at = record { number = 0; equality = t; here = refl; is = subst (IsEquality x y) (sym (same_Some _ _ at)) is; first = λ m f lt p q. omega arith }
first_of (t ∷ ts) x y e is (suc n) at = elim (is_equality x y t) [
  | inl h ↦ record { number = 0; equality = t; here = refl; is = h; first = λ m f lt p q. omega arith }
  | inr h ↦ first_later t ts x y h (first_of ts x y e is n at)
]

-- so a numbered equality of two terms gives them theirs
pub first_equality : (s : State) (x y e : Term) → IsEquality x y e → Contains s.terms e → IsEquated s x y
first_equality s x y e is c = let f = first_of s.terms x y e is c.0 c.1 in (f.equality, record { number = f.number; here = f.here; equality = f.is; first = f.first })

-- The equality of two numbered terms.
use Rattle.std.proofs.Common.{◌≡◌, ℕ, ◌<◌, ◌≤◌, Bool, true, false, List, [], ◌∷◌, Option, Some, None, refl, ◌∙◌, ap, subst, inl, inr, ◌⊎◌, arith}
use Rattle.std.specs.Prelude.{nat_lt, if◌then◌else◌}
use Rattle.std.proofs.lemmas.Bool.{ltb-true, ltb-false}
use Rattle.vx_terms.specs.Sorts.{Equal}
use Rattle.vx_terms.specs.Terms.{Term}
use Rattle.cs_certificate.specs.Terms.{BinaryHead, parts, equal}
use Rattle.cs_certificate.specs.Certificate.{At, no-terms, one-term, State, IsEquality, Equates}
use Rattle.cs_certificate.specs.Nodes.{Node, Represents, number_of, first_of, equality}
use Rattle.cs_certificate.proofs.Heads.{one_term}
use Rattle.cs_certificate.proofs.Find.{one_all, found, finds}

-- k is one of the two, and at most each
pub record IsFirst (x y : Option ℕ) (k : ℕ) : Type 0 where
  pub one : (x ≡ Some k) ⊎ (y ≡ Some k)
  pub least : (j : ℕ) → (x ≡ Some j) ⊎ (y ≡ Some j) → k ≤ j

some_eq : {j k : ℕ} → Some j ≡ Some k → j ≡ k
some_eq e = cc

first_is : (x y : Option ℕ) (k : ℕ) → first_of x y ≡ Some k → IsFirst x y k
first_is None None k e = cc
first_is None (Some n) k e = record { one = inr e; least = λ j h. elim h [ inl f ↦ cc | inr f ↦ (let p : n ≡ j = cc in let q : n ≡ k = cc in omega arith) ] }
first_is (Some m) None k e = record { one = inl e; least = λ j h. elim h [ inl f ↦ (let p : m ≡ j = cc in let q : m ≡ k = cc in omega arith) | inr f ↦ cc ] }
first_is (Some m) (Some n) k e = go (nat_lt n m) refl e
  where
    go : (b : Bool) → nat_lt n m ≡ b → Some (if b then n else m) ≡ Some k → IsFirst (Some m) (Some n) k
    go true t e =
        let l : n < m = ltb-true n m t in
        let q : n ≡ k = some_eq e in
        record { one = inr e; least = λ j h. elim h [ inl f ↦ (let p : m ≡ j = some_eq f in omega arith) | inr f ↦ (let p : n ≡ j = some_eq f in omega arith) ] }
    go false t e =
        let l : m ≤ n = ltb-false n m t in
        let q : m ≡ k = some_eq e in
        record { one = inl e; least = λ j h. elim h [ inl f ↦ (let p : m ≡ j = some_eq f in omega arith) | inr f ↦ (let p : n ≡ j = some_eq f in omega arith) ] }

is_first : (x y : Option ℕ) (k : ℕ) → IsFirst x y k → first_of x y ≡ Some k
is_first None None k h = elim h.one [ inl e ↦ cc | inr e ↦ cc ]
is_first None (Some n) k h = elim h.one [ inl e ↦ cc | inr e ↦ e ]
is_first (Some m) None k h = elim h.one [ inl e ↦ e | inr e ↦ cc ]
is_first (Some m) (Some n) k h = go (nat_lt n m) refl
  where
    to_m : k ≤ m
    to_m = h.least m (inl refl)

    to_n : k ≤ n
    to_n = h.least n (inr refl)

    either : (m ≡ k) ⊎ (n ≡ k)
    either = elim h.one [ inl e ↦ inl (some_eq e) | inr e ↦ inr (some_eq e) ]

    go : (b : Bool) → nat_lt n m ≡ b → Some (if nat_lt n m then n else m) ≡ Some k
    go true t =
        let l : n < m = ltb-true n m t in
        let a = to_m in let b = to_n in
        let q : n ≡ k = elim either [ inl p ↦ absurd (omega arith) | inr p ↦ p ] in
        ap (λ b. Some (if b then n else m)) t ∙ ap Some q
    go false t =
        let l : m ≤ n = ltb-false n m t in
        let a = to_m in let b = to_n in
        let q : m ≡ k = elim either [ inl p ↦ p | inr p ↦ omega arith ] in
        ap (λ b. Some (if b then n else m)) t ∙ ap Some q

module _ (nodes : List Node) (s : State) (r : Represents nodes s.terms) where
  -- one of the two orders
  named : (a b : ℕ) (t u : Term) → At s.terms a t → At s.terms b u → (j : ℕ) → number_of nodes (BinaryHead Equal) (a ∷ b ∷ []) ≡ Some j → At s.terms j (equal t u)
  named a b t u p q j e =
      let f = found nodes s.terms r (BinaryHead Equal) (a ∷ b ∷ []) j e in
      let whole : parts f.0 ≡ t ∷ u ∷ [] = one_all s.terms (parts f.0) (t ∷ u ∷ []) (f.2).its_parts (one-term p (one-term q no-terms)) in
      subst (At s.terms j) (one_term f.0 (equal t u) (f.2).its_head whole) f.1

  numbers : (a b : ℕ) (t u : Term) → At s.terms a t → At s.terms b u → (j : ℕ) → At s.terms j (equal t u) → number_of nodes (BinaryHead Equal) (a ∷ b ∷ []) ≡ Some j
  numbers a b t u p q j e = finds nodes s.terms r (BinaryHead Equal) (a ∷ b ∷ []) j (equal t u) e record { its_head = refl; its_parts = one-term p (one-term q no-terms) }

  either_numbers : (a b : ℕ) (t u : Term) → At s.terms a t → At s.terms b u → (j : ℕ) (e : Term) → At s.terms j e → IsEquality t u e →
      (number_of nodes (BinaryHead Equal) (a ∷ b ∷ []) ≡ Some j) ⊎ (number_of nodes (BinaryHead Equal) (b ∷ a ∷ []) ≡ Some j)
  either_numbers a b t u p q j e at h = elim h [
    | inl f ↦ inl (numbers a b t u p q j (subst (At s.terms j) f at))
    | inr f ↦ inr (numbers b a u t q p j (subst (At s.terms j) f at))
  ]

  either_named : (a b : ℕ) (t u : Term) → At s.terms a t → At s.terms b u → (j : ℕ) →
      (number_of nodes (BinaryHead Equal) (a ∷ b ∷ []) ≡ Some j) ⊎ (number_of nodes (BinaryHead Equal) (b ∷ a ∷ []) ≡ Some j) → (e : Term) × At s.terms j e × IsEquality t u e
  either_named a b t u p q j h = elim h [
    | inl f ↦ (equal t u, named a b t u p q j f, inl refl)
    | inr f ↦ (equal u t, named b a u t q p j f, inr refl)
  ]

  pub told : (a b : ℕ) (t u : Term) → At s.terms a t → At s.terms b u → (k : ℕ) → equality nodes a b ≡ Some k → (e : Term) × At s.terms k e × Equates s t u e
  told a b t u p q k h =
      let f = first_is _ _ k h in
      let n = either_named a b t u p q k f.one in (
        n.0,
        n.1,
        record {
          number = k;
          here = n.1;
          equality = n.2;
          first = λ m g lt at is. let l = f.least m (either_numbers a b t u p q m g at is) in omega arith;
        },
      )

  pub tells : (a b : ℕ) (t u : Term) → At s.terms a t → At s.terms b u → (k : ℕ) (e : Term) → At s.terms k e → Equates s t u e → equality nodes a b ≡ Some k
  tells a b t u p q k e at h =
      let same : h.number ≡ k = r.distinct h.number k e h.here at in
      is_first _ _ k record {
        one = either_numbers a b t u p q k e at h.equality;
        least = λ j g. least j (either_named a b t u p q j g) same (nat_lt j k) refl;
      }
    where
      least : (j : ℕ) → (f : Term) × At s.terms j f × IsEquality t u f → h.number ≡ k → (b : Bool) → nat_lt j k ≡ b → k ≤ j
      least j n same false z = ltb-false j k z
      least j n same true z =
          let l : j < k = ltb-true j k z in
          absurd (h.first j n.0 (omega arith) n.1 n.2)

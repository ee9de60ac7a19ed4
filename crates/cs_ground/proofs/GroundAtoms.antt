-- Clauses are of numbered Bool terms.
use Rattle.std.proofs.Common.{◌≡◌, inl, inr, ℕ, zero, suc, true, false, List, [], ◌∷◌, ◌++◌, map, refl, sym, ◌∙◌, subst}
use Rattle.std.proofs.lemmas.Option.{same_Some}
use Rattle.vx_terms.specs.Sorts.{Sort, BoolSort, And, Or, Implies, Equal}
use Rattle.vx_terms.specs.Terms.{Term, Truth, Not, Binary, Ite, Terms}
use Rattle.vx_terms.specs.Formed.{Formed, truth, nots, binary, ites, all_of, some_of, FormedBools, no_bools, more_bools}
use Rattle.vx_terms.specs.Interpretations.{Each}
use Rattle.vx_terms.proofs.Values.{sort_of_formed}
use Rattle.cs_certificate.specs.Terms.{items, parts, equal, HasSort}
use Rattle.cs_certificate.specs.Certificate.{Yes, No, Clause, State, At, Contains, IsEquality, Equates, Links, end, link, Pairs, no-pairs, same, differ, IsAnd, and-of-two, and-of-more, IsOr, or-of-two, or-of-more, Defines, true-is, false-is, not-0, not-1, and-part, and-all, or-part, or-all, implies-0, implies-1, implies-2, ite-0, ite-1, ite-2, ite-3, equal-0, equal-1, equal-2, equal-3}
use Rattle.cs_numbers.specs.Laws.{IsSorted}
use Rattle.cs_ground.specs.Ground.{term_of, AreAtoms}
use Rattle.cs_ground.proofs.Lists.{each_last}
use Rattle.cs_ground.proofs.Paired.{equality_bool}

-- ---- sorts
and_bool : {n : ℕ} {t : Term} {a : Sort} {xs : List Term} → IsAnd t xs → Formed n t a → HasSort t BoolSort
and_bool {n = n} (and-of-two x y) (binary {o = And} h f g) = (n, binary {o = And} h f g)
and_bool {n = n} (and-of-more ts) (all_of fs) = (n, all_of fs)

or_bool : {n : ℕ} {t : Term} {a : Sort} {xs : List Term} → IsOr t xs → Formed n t a → HasSort t BoolSort
or_bool {n = n} (or-of-two x y) (binary {o = Or} h f g) = (n, binary {o = Or} h f g)
or_bool {n = n} (or-of-more ts) (some_of fs) = (n, some_of fs)

bools : {n : ℕ} {ts : Terms} → FormedBools n ts → Each (λ x. HasSort x BoolSort) (items ts)
bools no_bools = tt
bools {n = n} (more_bools f fs) = ((n, f), bools fs)

and_bools : {n : ℕ} {t : Term} {a : Sort} {xs : List Term} → IsAnd t xs → Formed n t a → Each (λ x. HasSort x BoolSort) xs
and_bools {n = n} (and-of-two x y) (binary {o = And} h f g) = ((n, subst (Formed n x) h f), ((n, subst (Formed n y) h g), tt))
and_bools (and-of-more ts) (all_of fs) = bools fs

or_bools : {n : ℕ} {t : Term} {a : Sort} {xs : List Term} → IsOr t xs → Formed n t a → Each (λ x. HasSort x BoolSort) xs
or_bools {n = n} (or-of-two x y) (binary {o = Or} h f g) = ((n, subst (Formed n x) h f), ((n, subst (Formed n y) h g), tt))
or_bools (or-of-more ts) (some_of fs) = bools fs

and_parts : {t : Term} {xs : List Term} → IsAnd t xs → parts t ≡ xs
and_parts (and-of-two x y) = refl
and_parts (and-of-more ts) = refl

or_parts : {t : Term} {xs : List Term} → IsOr t xs → parts t ≡ xs
or_parts (or-of-two x y) = refl
or_parts (or-of-more ts) = refl

-- ---- atoms
module _ (terms : List Term) (closed : (u p : Term) → Contains terms u → Contains (parts u) p → Contains terms p) where
  abbrev pub IsAtom : Term → Type 0
  IsAtom t = Contains terms t × HasSort t BoolSort

  pub atom : (t : Term) → Contains terms t → HasSort t BoolSort → IsAtom t
  atom t at h = (at, h)

  part_atom : (t x : Term) (k : ℕ) → Contains terms t → At (parts t) k x → HasSort x BoolSort → IsAtom x
  part_atom t x k at e h = atom x (closed t x at (k, e)) h

  all_atoms : (xs : List Term) → ((x : Term) → Contains xs x → Contains terms x) → Each (λ x. HasSort x BoolSort) xs → Each IsAtom xs
  all_atoms [] f h = tt
  all_atoms (x ∷ xs) f h = (atom x (f x (0, refl)) h.0, all_atoms xs (λ y k. f y (suc k.0, k.1)) h.1)

  yes_atoms : (xs : List Term) → Each IsAtom xs → AreAtoms terms (map Yes xs)
  yes_atoms [] h = tt
  yes_atoms (x ∷ xs) h = (h.0, yes_atoms xs h.1)

  no_atoms : (xs : List Term) → Each IsAtom xs → AreAtoms terms (map No xs)
  no_atoms [] h = tt
  no_atoms (x ∷ xs) h = (h.0, no_atoms xs h.1)

  atom_at : (xs : List Term) (k : ℕ) (x : Term) → Each IsAtom xs → At xs k x → IsAtom x
  atom_at [] k x h e = cc
  atom_at (y ∷ xs) zero x h e = subst IsAtom (same_Some _ _ e) h.0
  atom_at (y ∷ xs) (suc k) x h e = atom_at xs k x h.1 e

  and_atoms : {n : ℕ} {t : Term} {a : Sort} {xs : List Term} → Formed n t a → Contains terms t → IsAnd t xs → Each IsAtom xs
  and_atoms {t = t} {xs = xs} f at d = all_atoms xs (λ x k. closed t x at (subst (λ l. Contains l x) (sym (and_parts d)) k)) (and_bools d f)

  or_atoms : {n : ℕ} {t : Term} {a : Sort} {xs : List Term} → Formed n t a → Contains terms t → IsOr t xs → Each IsAtom xs
  or_atoms {t = t} {xs = xs} f at d = all_atoms xs (λ x k. closed t x at (subst (λ l. Contains l x) (sym (or_parts d)) k)) (or_bools d f)

  -- a term and two parts
  record AreThree (t x y : Term) : Type 0 where
    whole : IsAtom t
    left : IsAtom x
    right : IsAtom y

  record AreFour (t c x y : Term) : Type 0 where
    whole : IsAtom t
    test : IsAtom c
    left : IsAtom x
    right : IsAtom y

  nots_are : {n : ℕ} {x : Term} {a : Sort} → Formed n (Not x) a → Contains terms (Not x) → AreThree (Not x) x x
  nots_are {n = n} {x = x} (nots f) at =
      let p = part_atom (Not x) x 0 at refl (n, f) in
      record { whole = atom (Not x) at (n, nots f); left = p; right = p }

  implies_are : {n : ℕ} {x y : Term} {a : Sort} → Formed n (Binary Implies x y) a → Contains terms (Binary Implies x y) → AreThree (Binary Implies x y) x y
  implies_are {n = n} {x = x} {y = y} (binary {o = Implies} h f g) at = record {
    whole = atom (Binary Implies x y) at (n, binary {o = Implies} h f g);
    left = part_atom (Binary Implies x y) x 0 at refl (n, subst (Formed n x) h f);
    right = part_atom (Binary Implies x y) y 1 at refl (n, subst (Formed n y) h g);
  }

  equals_are : {n : ℕ} {x y : Term} {a : Sort} → Formed n (equal x y) a → Contains terms (equal x y) → HasSort x BoolSort → HasSort y BoolSort → AreThree (equal x y) x y
  equals_are {n = n} {x = x} {y = y} (binary {o = Equal} h f g) at k l = record {
    whole = atom (equal x y) at (n, binary {o = Equal} h f g);
    left = part_atom (equal x y) x 0 at refl k;
    right = part_atom (equal x y) y 1 at refl l;
  }

  ites_are : {n : ℕ} {c x y : Term} {a : Sort} → Formed n (Ite c x y) a → Contains terms (Ite c x y) → HasSort x BoolSort → AreFour (Ite c x y) c x y
  ites_are {n = n} {c = c} {x = x} {y = y} {a = a} (ites f g i) at h =
      let is : a ≡ BoolSort = sym (sort_of_formed g) ∙ sort_of_formed h.1 in
      record {
        whole = atom (Ite c x y) at (n, subst (Formed n (Ite c x y)) is (ites f g i));
        test = part_atom (Ite c x y) c 0 at refl (n, f);
        left = part_atom (Ite c x y) x 1 at refl h;
        right = part_atom (Ite c x y) y 2 at refl (n, subst (Formed n y) is i);
      }

  pub test_atom : (c x y : Term) → IsSorted (Ite c x y) → Contains terms (Ite c x y) → IsAtom c
  test_atom c x y (a, (n, ites f g i)) at = part_atom (Ite c x y) c 0 at refl (n, f)

  pub equality_atom : (x y e : Term) → IsSorted e → Contains terms e → IsEquality x y e → IsAtom e
  equality_atom x y e h at (inl is) = atom e at (subst (λ t. HasSort t BoolSort) (sym is) (equality_bool x y (subst IsSorted is h)))
  equality_atom x y e h at (inr is) = atom e at (subst (λ t. HasSort t BoolSort) (sym is) (equality_bool y x (subst IsSorted is h)))

  pub row_atoms : {n : ℕ} {t : Term} {a : Sort} {k : ℕ} {c : Clause} → Formed n t a → Contains terms t → Defines t k c → AreAtoms terms c
  row_atoms f at true-is = (atom (Truth true) at (0, truth true), tt)
  row_atoms f at false-is = (atom (Truth false) at (0, truth false), tt)
  row_atoms f at (not-0 x) = let h = nots_are f at in (h.whole, (h.left, tt))
  row_atoms f at (not-1 x) = let h = nots_are f at in (h.whole, (h.left, tt))
  row_atoms {t = t} f at (and-part {x = x} {xs = xs} {k = k} d e) = (atom t at (and_bool d f), (atom_at xs k x (and_atoms f at d) e, tt))
  row_atoms {t = t} f at (and-all {xs = xs} d) = (atom t at (and_bool d f), no_atoms xs (and_atoms f at d))
  row_atoms {t = t} f at (or-part {x = x} {xs = xs} {k = k} d e) = (atom t at (or_bool d f), (atom_at xs k x (or_atoms f at d) e, tt))
  row_atoms {t = t} f at (or-all {xs = xs} d) = (atom t at (or_bool d f), yes_atoms xs (or_atoms f at d))
  row_atoms f at (implies-0 x y) = let h = implies_are f at in (h.whole, (h.left, (h.right, tt)))
  row_atoms f at (implies-1 x y) = let h = implies_are f at in (h.whole, (h.left, tt))
  row_atoms f at (implies-2 x y) = let h = implies_are f at in (h.whole, (h.right, tt))
  row_atoms f at (ite-0 c x y b) = let h = ites_are f at b in (h.whole, (h.test, (h.left, tt)))
  row_atoms f at (ite-1 c x y b) = let h = ites_are f at b in (h.whole, (h.test, (h.left, tt)))
  row_atoms f at (ite-2 c x y b) = let h = ites_are f at b in (h.whole, (h.test, (h.right, tt)))
  row_atoms f at (ite-3 c x y b) = let h = ites_are f at b in (h.whole, (h.test, (h.right, tt)))
  row_atoms f at (equal-0 x y b d) = let h = equals_are f at b d in (h.whole, (h.left, (h.right, tt)))
  row_atoms f at (equal-1 x y b d) = let h = equals_are f at b d in (h.whole, (h.left, (h.right, tt)))
  row_atoms f at (equal-2 x y b d) = let h = equals_are f at b d in (h.whole, (h.left, (h.right, tt)))
  row_atoms f at (equal-3 x y b d) = let h = equals_are f at b d in (h.whole, (h.left, (h.right, tt)))

  -- ---- clauses of equalities
  module _ (s : State) (are : s.terms ≡ terms) (sorts : (t : Term) → Contains terms t → IsSorted t) where
    pub named_atom : {a b e : Term} → Equates s a b e → IsAtom e
    named_atom {a = a} {b = b} {e = e} q =
        let here : Contains terms e = (q.number, subst (λ ts. At ts q.number e) are q.here) in
        equality_atom a b e (sorts e here) here q.equality

    links_atoms : {t u : Term} {ts : List Term} {c : Clause} → Links s t ts u c → AreAtoms terms c
    links_atoms (end t) = tt
    links_atoms (link q l) = (named_atom q, links_atoms l)

    pairs_atoms : {xs ys : List Term} {c : Clause} → Pairs s xs ys c → AreAtoms terms c
    pairs_atoms no-pairs = tt
    pairs_atoms (same k) = pairs_atoms k
    pairs_atoms (differ n q k) = (named_atom q, pairs_atoms k)

    pub chain_atoms : {t u e : Term} {ts : List Term} {c : Clause} → Links s t ts u c → Equates s t u e → AreAtoms terms (c ++ Yes e ∷ [])
    chain_atoms {e = e} {c = c} l q = each_last (λ m. IsAtom (term_of m)) c (Yes e) (links_atoms l) (named_atom q)

    pub congruence_atoms : {t u e : Term} {xs ys : List Term} {c : Clause} → Pairs s xs ys c → Equates s t u e → AreAtoms terms (c ++ Yes e ∷ [])
    congruence_atoms {e = e} {c = c} k q = each_last (λ m. IsAtom (term_of m)) c (Yes e) (pairs_atoms k) (named_atom q)

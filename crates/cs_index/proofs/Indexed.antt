-- An index over one item more.
use Rattle.std.proofs.Common.{◌≡◌, ℕ, zero, suc, ◌<◌, Bool, true, false, List, [], ◌∷◌, ◌++◌, length, slice_get, All, Option, Some, None, refl, sym, ◌∙◌, ap, ap₂, subst, arith, get_or, drop, drop-cons, nat_eq, eq-eqb}
use Rattle.std.specs.Prelude.{if◌then◌else◌}
use Rattle.std.specs.Option.{option_map}
use Rattle.cs_index.specs.declared.index.Index.{Index}
use Rattle.cs_index.specs.Under.{under, with_number}
use Rattle.cs_index.specs.Found.{first, passes_at, found, IsIndexed}

abbrev or_else : Option ℕ → Option ℕ → Option ℕ
or_else (Some n) o = Some n
or_else None o = o

abbrev pub AreBelow : ℕ → List ℕ → Type 0
AreBelow n [] = Unit {0}
AreBelow n (m ∷ ms) = (m < n) × AreBelow n ms

below_from : (n : ℕ) (ms : List ℕ) → All (λ m. m < n) ms → AreBelow n ms
below_from n [] h = tt
below_from n (m ∷ ms) h = (h 0 m (omega arith), below_from n ms (λ k d lt. h (suc k) d (omega arith)))

pub below_all : (n : ℕ) (ms : List ℕ) → AreBelow n ms → All (λ m. m < n) ms
below_all n [] h k d lt = absurd (omega arith)
below_all n (m ∷ ms) h zero d lt = h.0
below_all n (m ∷ ms) h (suc k) d lt = below_all n ms h.1 k d (omega arith)

get_front : {A : Type 0} (xs ys : List A) (n : ℕ) → n < length xs → slice_get (xs ++ ys) n ≡ slice_get xs n
get_front [] ys n h = absurd (omega arith)
get_front (x ∷ xs) ys zero h = refl
get_front (x ∷ xs) ys (suc n) h = get_front xs ys n (omega arith)

get_last : {A : Type 0} (xs : List A) (x : A) → slice_get (xs ++ x ∷ []) (length xs) ≡ Some x
get_last [] x = refl
get_last (y ∷ xs) x = get_last xs x

first_more : {A : Type 0} (passes : A → Bool) (xs : List A) (x : A) → first passes (xs ++ x ∷ []) ≡ or_else (first passes xs) (if passes x then Some (length xs) else None)
first_more passes [] x = refl
first_more passes (y ∷ xs) x = go (passes y) (first_more passes xs x)
  where
    on : (o : Option ℕ) (b : Bool) → option_map suc (or_else o (if b then Some (length xs) else None)) ≡ or_else (option_map suc o) (if b then Some (suc (length xs)) else None)
    on (Some n) b = refl
    on None true = refl
    on None false = refl

    go : (b : Bool) → first passes (xs ++ x ∷ []) ≡ or_else (first passes xs) (if passes x then Some (length xs) else None) →
        (if b then Some 0 else option_map suc (first passes (xs ++ x ∷ []))) ≡ or_else (if b then Some 0 else option_map suc (first passes xs)) (if passes x then Some (suc (length xs)) else None)
    go true h = refl
    go false h = ap (option_map suc) h ∙ on (first passes xs) (passes x)

passes_front : {A : Type 0} (passes : A → Bool) (xs ys : List A) (n : ℕ) → n < length xs → passes_at passes (xs ++ ys) n ≡ passes_at passes xs n
passes_front passes xs ys n h = ap (λ o. elim o [ Some x ↦ passes x | None ↦ false ]) (get_front xs ys n h)

module _ {A : Type 0} (passes : A → Bool) (xs : List A) (x : A) where
  found_front : (ns : List ℕ) → AreBelow (length xs) ns → found passes (xs ++ x ∷ []) ns ≡ found passes xs ns
  found_front [] h = refl
  found_front (n ∷ ns) h = ap₂ (λ b o. if b then Some n else o) (passes_front passes xs (x ∷ []) n h.0) (found_front ns h.1)

  found_more : (ns : List ℕ) → AreBelow (length xs) ns → found passes (xs ++ x ∷ []) (ns ++ length xs ∷ []) ≡ or_else (found passes xs ns) (if passes x then Some (length xs) else None)
  found_more [] h = ap (λ o. if (elim o [ Some x ↦ passes x | None ↦ false ]) then Some (length xs) else None) (get_last xs x)
  found_more (n ∷ ns) h = go (passes_at passes xs n) (passes_front passes xs (x ∷ []) n h.0) (found_more ns h.1)
    where
      go : (b : Bool) → passes_at passes (xs ++ x ∷ []) n ≡ b → found passes (xs ++ x ∷ []) (ns ++ length xs ∷ []) ≡ or_else (found passes xs ns) (if passes x then Some (length xs) else None) →
          (if passes_at passes (xs ++ x ∷ []) n then Some n else found passes (xs ++ x ∷ []) (ns ++ length xs ∷ [])) ≡ or_else (if b then Some n else found passes xs ns) (if passes x then Some (length xs) else None)
      go true e h = ap (λ b. if b then Some n else found passes (xs ++ x ∷ []) (ns ++ length xs ∷ [])) e
      go false e h = ap (λ b. if b then Some n else found passes (xs ++ x ∷ []) (ns ++ length xs ∷ [])) e ∙ h

or_none : (o : Option ℕ) → or_else o None ≡ o
or_none (Some n) = refl
or_none None = refl

pub indexed_none : {A : Type 0} (key : A → ℕ) (i : Index) → ((k : ℕ) → under i k ≡ []) → IsIndexed key [] i
indexed_none key i h = record {
  finds = λ passes k p. ap (found passes []) (h k);
  within = λ k. below_all 0 (under i k) (subst (AreBelow 0) (sym (h k)) tt);
}

within_more : (n : ℕ) (ns : List ℕ) → AreBelow n ns → AreBelow (suc n) ns
within_more n [] h = tt
within_more n (m ∷ ns) h = (let a = h.0 in omega arith, within_more n ns h.1)

within_last : (n : ℕ) (ns : List ℕ) → AreBelow n ns → AreBelow (suc n) (ns ++ n ∷ [])
within_last n [] h = (omega arith, tt)
within_last n (m ∷ ns) h = (let a = h.0 in omega arith, within_last n ns h.1)

pub length_more : {A : Type 0} (xs : List A) (x : A) → length (xs ++ x ∷ []) ≡ suc (length xs)
length_more [] x = refl
length_more (y ∷ xs) x = ap suc (length_more xs x)

-- the place of a further item, under its key
pub indexed_more : {A : Type 0} (key : A → ℕ) (xs : List A) (x : A) (i j : Index) → IsIndexed key xs i → ((k : ℕ) → under j k ≡ with_number (nat_eq (key x) k) (under i k) (length xs)) →
    IsIndexed key (xs ++ x ∷ []) j
indexed_more {A} key xs x i j is more = record {
  finds = λ passes k p. finds passes k p (nat_eq (key x) k) refl;
  within = λ k. below_all (length (xs ++ x ∷ [])) (under j k) (within k (nat_eq (key x) k) refl);
}
  where
    finds : (passes : A → Bool) (k : ℕ) → ((y : A) → passes y ≡ true → key y ≡ k) → (b : Bool) → nat_eq (key x) k ≡ b → found passes (xs ++ x ∷ []) (under j k) ≡ first passes (xs ++ x ∷ [])
    finds passes k p true e =
        ap (found passes (xs ++ x ∷ [])) (more k ∙ ap (λ b. with_number b (under i k) (length xs)) e)
        ∙ found_more passes xs x (under i k) (below_from (length xs) (under i k) (is.within k))
        ∙ ap (λ o. or_else o (if passes x then Some (length xs) else None)) (is.finds passes k p)
        ∙ sym (first_more passes xs x)
    finds passes k p false e = go (passes x) refl
      where
        go : (b : Bool) → passes x ≡ b → found passes (xs ++ x ∷ []) (under j k) ≡ first passes (xs ++ x ∷ [])
        go true f = absurd (let g : true ≡ false = sym (eq-eqb _ _ (p x f)) ∙ e in cc)
        go false f =
            ap (found passes (xs ++ x ∷ [])) (more k ∙ ap (λ b. with_number b (under i k) (length xs)) e)
            ∙ found_front passes xs x (under i k) (below_from (length xs) (under i k) (is.within k))
            ∙ is.finds passes k p
            ∙ sym (first_more passes xs x ∙ ap (λ b. or_else (first passes xs) (if b then Some (length xs) else None)) f ∙ or_none (first passes xs))

    within : (k : ℕ) (b : Bool) → nat_eq (key x) k ≡ b → AreBelow (length (xs ++ x ∷ [])) (under j k)
    within k true e =
        subst (λ n. AreBelow n (under j k)) (sym (length_more xs x))
        (subst (AreBelow (suc (length xs))) (sym (more k ∙ ap (λ b. with_number b (under i k) (length xs)) e)) (within_last (length xs) (under i k) (below_from (length xs) (under i k) (is.within k))))
    within k false e =
        subst (λ n. AreBelow n (under j k)) (sym (length_more xs x))
        (subst (AreBelow (suc (length xs))) (sym (more k ∙ ap (λ b. with_number b (under i k) (length xs)) e)) (within_more (length xs) (under i k) (below_from (length xs) (under i k) (is.within k))))

-- an index with the same numbers
pub indexed_same : {A : Type 0} (key : A → ℕ) (xs : List A) (i j : Index) → IsIndexed key xs i → ((k : ℕ) → under j k ≡ under i k) → IsIndexed key xs j
indexed_same key xs i j is kept = record {
  finds = λ passes k p. ap (found passes xs) (kept k) ∙ is.finds passes k p;
  within = λ k. below_all (length xs) (under j k) (subst (AreBelow (length xs)) (sym (kept k)) (below_from (length xs) (under i k) (is.within k)));
}

pub found_here : {A : Type 0} (passes : A → Bool) (xs : List A) (ns : List ℕ) (at : ℕ) → at < length ns → passes_at passes xs (get_or ns at 0) ≡ true → found passes xs (drop at ns) ≡ Some (get_or ns at 0)
found_here passes xs ns at lt e =
    ap (found passes xs) (drop-cons ns at 0 lt) ∙ ap (λ b. if b then Some (get_or ns at 0) else found passes xs (drop (suc at) ns)) e

-- What an index holds as its list grows and shrinks, and that what stands in it is found.
use Rattle.std.proofs.Common.{◌≡◌, ℕ, suc, ◌-◌, Bool, true, false, List, [], ◌∷◌, ◌++◌, length, map, take, Some, refl, sym, ◌∙◌, ap, subst, arith, nat_eq, eq-eqb}
use Rattle.std.specs.Prelude.{if◌then◌else◌}
use Rattle.std.specs.Option.{option_map}
use Rattle.cs_index.specs.declared.index.Index.{Index}
use Rattle.cs_index.specs.Under.{under, with_number, without_last}
use Rattle.cs_index.specs.Found.{first, passes_at, found, IsIndexed}
use Rattle.cs_index.specs.Exact.{places, IsExact}
use Rattle.cs_index.proofs.Indexed.{AreBelow, below_all, length_more}

-- ---- an item more

later_number : (b : Bool) (ns : List ℕ) (n : ℕ) → map suc (with_number b ns n) ≡ with_number b (map suc ns) (suc n)
later_number true [] n = refl
later_number true (m ∷ ns) n = ap (λ ms. suc m ∷ ms) (later_number true ns n)
later_number false ns n = refl

pub places_more : {A : Type 0} (key : A → ℕ) (k : ℕ) (xs : List A) (x : A) → places key k (xs ++ x ∷ []) ≡ with_number (nat_eq (key x) k) (places key k xs) (length xs)
places_more key k [] x = go (nat_eq (key x) k)
  where
    go : (b : Bool) → (if b then 0 ∷ [] else []) ≡ with_number b [] 0
    go true = refl
    go false = refl
places_more key k (y ∷ xs) x =
    ap (λ ms. if nat_eq (key y) k then 0 ∷ ms else ms) (ap (map suc) (places_more key k xs x) ∙ later_number (nat_eq (key x) k) (places key k xs) (length xs))
    ∙ go (nat_eq (key y) k) (nat_eq (key x) k)
  where
    go : (c b : Bool) → (if c then 0 ∷ with_number b (map suc (places key k xs)) (suc (length xs)) else with_number b (map suc (places key k xs)) (suc (length xs)))
        ≡ with_number b (if c then 0 ∷ map suc (places key k xs) else map suc (places key k xs)) (suc (length xs))
    go true true = refl
    go true false = refl
    go false b = refl

pub exact_none : {A : Type 0} (key : A → ℕ) (i : Index) → ((k : ℕ) → under i k ≡ []) → IsExact key [] i
exact_none key i h = h

pub exact_more : {A : Type 0} (key : A → ℕ) (xs : List A) (x : A) (i j : Index) → IsExact key xs i → ((k : ℕ) → under j k ≡ with_number (nat_eq (key x) k) (under i k) (length xs)) → IsExact key (xs ++ x ∷ []) j
exact_more key xs x i j is more k = more k ∙ ap (λ ns. with_number (nat_eq (key x) k) ns (length xs)) (is k) ∙ sym (places_more key k xs x)

pub exact_same : {A : Type 0} (key : A → ℕ) (xs : List A) (i j : Index) → IsExact key xs i → ((k : ℕ) → under j k ≡ under i k) → IsExact key xs j
exact_same key xs i j is kept k = kept k ∙ is k

-- ---- the last item gone

front : {A : Type 0} (ns ms : List A) → take (length ns) (ns ++ ms) ≡ ns
front [] ms = refl
front (n ∷ ns) ms = ap (λ ls. n ∷ ls) (front ns ms)

front_left : {A : Type 0} (ns : List A) (n : A) → take (length (ns ++ n ∷ []) - 1) (ns ++ n ∷ []) ≡ ns
front_left ns n =
    let long = length_more ns n in
    let e : length (ns ++ n ∷ []) - 1 ≡ length ns = omega arith in
    ap (λ k. take k (ns ++ n ∷ [])) e ∙ front ns (n ∷ [])

taken : (b : Bool) (ns : List ℕ) (n : ℕ) → without_last b (with_number b ns n) ≡ ns
taken true ns n = front_left ns n
taken false ns n = refl

pub exact_less : {A : Type 0} (key : A → ℕ) (xs : List A) (x : A) (i j : Index) → IsExact key (xs ++ x ∷ []) i → ((k : ℕ) → under j k ≡ without_last (nat_eq (key x) k) (under i k)) → IsExact key xs j
exact_less key xs x i j is less k =
    less k ∙ ap (without_last (nat_eq (key x) k)) (is k ∙ places_more key k xs x) ∙ taken (nat_eq (key x) k) (places key k xs) (length xs)

-- ---- what is found

found_later : {A : Type 0} (passes : A → Bool) (x : A) (xs : List A) (ns : List ℕ) → found passes (x ∷ xs) (map suc ns) ≡ option_map suc (found passes xs ns)
found_later passes x xs [] = refl
found_later passes x xs (n ∷ ns) = go (passes_at passes xs n) (found_later passes x xs ns)
  where
    go : (b : Bool) → found passes (x ∷ xs) (map suc ns) ≡ option_map suc (found passes xs ns) →
        (if b then Some (suc n) else found passes (x ∷ xs) (map suc ns)) ≡ option_map suc (if b then Some n else found passes xs ns)
    go true h = refl
    go false h = h

found_first : {A : Type 0} (key : A → ℕ) (passes : A → Bool) (k : ℕ) → ((x : A) → passes x ≡ true → key x ≡ k) → (xs : List A) → found passes xs (places key k xs) ≡ first passes xs
found_first key passes k p [] = refl
found_first key passes k p (x ∷ xs) =
    go (found_later passes x xs (places key k xs) ∙ ap (option_map suc) (found_first key passes k p xs)) (nat_eq (key x) k) refl (passes x) refl
  where
    go : found passes (x ∷ xs) (map suc (places key k xs)) ≡ option_map suc (first passes xs) → (b : Bool) → nat_eq (key x) k ≡ b → (c : Bool) → passes x ≡ c →
        found passes (x ∷ xs) (if b then 0 ∷ map suc (places key k xs) else map suc (places key k xs)) ≡ (if c then Some 0 else option_map suc (first passes xs))
    go rest true e c f = ap (λ d. if d then Some 0 else found passes (x ∷ xs) (map suc (places key k xs))) f ∙ ap (λ o. if c then Some 0 else o) rest
    go rest false e true f = absurd (let g : true ≡ false = sym (eq-eqb _ _ (p x f)) ∙ e in cc)
    go rest false e false f = rest

below_later : (n : ℕ) (ns : List ℕ) → AreBelow n ns → AreBelow (suc n) (map suc ns)
below_later n [] h = tt
below_later n (m ∷ ns) h = (let a = h.0 in omega arith, below_later n ns h.1)

places_within : {A : Type 0} (key : A → ℕ) (k : ℕ) (xs : List A) → AreBelow (length xs) (places key k xs)
places_within key k [] = tt
places_within key k (x ∷ xs) = go (below_later (length xs) (places key k xs) (places_within key k xs)) (nat_eq (key x) k)
  where
    go : AreBelow (suc (length xs)) (map suc (places key k xs)) → (b : Bool) → AreBelow (suc (length xs)) (if b then 0 ∷ map suc (places key k xs) else map suc (places key k xs))
    go later true = (omega arith, later)
    go later false = later

pub exact_indexed : {A : Type 0} (key : A → ℕ) (xs : List A) (i : Index) → IsExact key xs i → IsIndexed key xs i
exact_indexed key xs i is = record {
  finds = λ passes k p. ap (found passes xs) (is k) ∙ found_first key passes k p xs;
  within = λ k. below_all (length xs) (under i k) (subst (AreBelow (length xs)) (sym (is k)) (places_within key k xs));
}

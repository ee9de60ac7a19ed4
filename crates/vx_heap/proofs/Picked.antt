-- What is chosen from a heap is picked at the places of its name.
use Rattle.std.proofs.Common.{◌≡◌, ◌+◌, ℕ, suc, Bool, true, false, List, [], ◌∷◌, ◌++◌, map, Option, Some, None, refl, sym, ap, ◌∙◌, subst, arith}
use Rattle.std.specs.Prelude.{◌&&◌, if◌then◌else◌, nat_eq, not, slice_get}
use Rattle.vx_ast.specs.Syntax.{same_name}
use Rattle.vx_rules.proofs.Names.{same_name_is}
use Rattle.vx_terms.specs.Terms.{Term, same_bool}
use Rattle.vx_rules.specs.States.{Chunk, Heap}
use Rattle.vx_rules.specs.Chunks.{Candidate, is_kin, same_arguments, chosen, apart, at_most_whole, bounding, one_value, with_other}
use Rattle.vx_heap.specs.Heaps.{IsFirst, apart_onto}
use Rattle.vx_heap.specs.Picked.{passes, passes_at, picked, picked_onto}
use Rattle.vx_heap.specs.Places.{places, row_of}
use Rattle.vx_heap.proofs.Tests.{itself}

-- a chunk of another row is no kin
no_kin : (key c : Chunk) → nat_eq (row_of c.resource) (row_of key.resource) ≡ false → is_kin key c ≡ false
no_kin key c e = go (same_bool key.is_field c.is_field) (same_name key.resource c.resource) refl
  where
    go : (a b : Bool) → same_name key.resource c.resource ≡ b → (a && b) ≡ false
    go false b h = refl
    go true false h = refl
    go true true h = absurd (let f : true ≡ false = sym (itself (row_of c.resource)) ∙ ap (λ x. nat_eq (row_of c.resource) (row_of x)) (sym (same_name_is key.resource c.resource h)) ∙ e in cc)

module _ {A : Type 0} (f : A → Chunk) (b : Bool) (key : Chunk) (h : Heap) where
  picked_from : (n : ℕ) (xs : List A) → ((i : ℕ) → slice_get h (n + i) ≡ slice_get (map f xs) i) →
      picked b key h (places (row_of key.resource) n (map (λ x. row_of (f x).resource) xs)) ≡ chosen b key n (map f xs)
  picked_from n [] same = refl
  picked_from n (x ∷ xs) same = go (nat_eq (row_of (f x).resource) (row_of key.resource)) refl (picked_from (suc n) xs (λ i. ap (slice_get h) (omega arith) ∙ same (suc i)))
    where
      rest : List ℕ
      rest = places (row_of key.resource) (suc n) (map (λ y. row_of (f y).resource) xs)

      here : slice_get h n ≡ Some (f x)
      here = ap (slice_get h) (omega arith) ∙ same 0

      go : (t : Bool) → nat_eq (row_of (f x).resource) (row_of key.resource) ≡ t → picked b key h rest ≡ chosen b key (suc n) (map f xs) → picked b key h (if t then n ∷ rest else rest) ≡ chosen b key n (f x ∷ map f xs)
      go true e next = ap (λ o. picked_onto b key o n (picked b key h rest)) here ∙ ap (λ l. picked_onto b key (Some (f x)) n l) next
      go false e next = next ∙ ap (λ k. if k && same_bool b (same_arguments key.arguments (f x).arguments) then record { number = n; chunk = f x } ∷ chosen b key (suc n) (map f xs) else chosen b key (suc n) (map f xs)) (sym (no_kin key (f x) e))

-- at the places of a name stand all that are chosen by it
pub chosen_picked : {A : Type 0} (f : A → Chunk) (b : Bool) (key : Chunk) (xs : List A) →
    picked b key (map f xs) (places (row_of key.resource) 0 (map (λ x. row_of (f x).resource) xs)) ≡ chosen b key 0 (map f xs)
chosen_picked f b key xs = picked_from f b key (map f xs) 0 xs (λ i. ap (slice_get (map f xs)) (omega arith))

-- the first that passes
pub first_here : (key : Chunk) (h : Heap) (n : ℕ) (ns : List ℕ) → passes_at true key h n ≡ true → IsFirst (Some n) h (picked true key h (n ∷ ns))
first_here key h n ns p = go (slice_get h n) refl p
  where
    go : (o : Option Chunk) → slice_get h n ≡ o → elim o [ Some c ↦ passes true key c | None ↦ false ] ≡ true → IsFirst (Some n) h (picked_onto true key o n (picked true key h ns))
    go (Some c) e t = subst (λ k. IsFirst (Some n) h (if k then record { number = n; chunk = c } ∷ picked true key h ns else picked true key h ns)) (sym t) (refl, e)
    go None e t = absurd (let g : true ≡ false = sym t in cc)

-- one that doesn't pass
pub first_behind : (key : Chunk) (h : Heap) (n : ℕ) (ns : List ℕ) → passes_at true key h n ≡ false → picked true key h (n ∷ ns) ≡ picked true key h ns
first_behind key h n ns p = go (slice_get h n) p
  where
    go : (o : Option Chunk) → elim o [ Some c ↦ passes true key c | None ↦ false ] ≡ false → picked_onto true key o n (picked true key h ns) ≡ picked true key h ns
    go (Some c) t = ap (λ k. if k then record { number = n; chunk = c } ∷ picked true key h ns else picked true key h ns) t
    go None t = refl

-- what holds with each of the others
pub apart_chosen : (summed bounded : Bool) (whole : Chunk) (n : ℕ) (h : Heap) (rest : List Term) → apart_onto summed bounded whole (chosen false whole n h) rest ≡ apart summed bounded whole h ++ rest
apart_chosen summed bounded whole n [] rest = refl
apart_chosen summed bounded whole n (c ∷ cs) rest = go (is_kin whole c) (same_arguments whole.arguments c.arguments) (apart_chosen summed bounded whole (suc n) cs rest)
  where
    one : Candidate
    one = record { number = n; chunk = c }

    others : List Candidate
    others = chosen false whole (suc n) cs

    joined : (s b : Bool) (xs ys : List Term) → xs ≡ ys ++ rest →
        bounding b (at_most_whole whole c ∷ []) ++ (bounding s (one_value whole c ∷ []) ++ xs) ≡ (with_other s b whole c ++ ys) ++ rest
    joined true true xs ys e = ap (λ l. at_most_whole whole c ∷ one_value whole c ∷ l) e
    joined true false xs ys e = ap (λ l. one_value whole c ∷ l) e
    joined false true xs ys e = ap (λ l. at_most_whole whole c ∷ l) e
    joined false false xs ys e = e

    go : (k s : Bool) → apart_onto summed bounded whole others rest ≡ apart summed bounded whole cs ++ rest →
        apart_onto summed bounded whole (if k && same_bool false s then one ∷ others else others) rest ≡ (if k && not s then with_other summed bounded whole c ++ apart summed bounded whole cs else apart summed bounded whole cs) ++ rest
    go true true e = e
    go true false e = joined summed bounded _ _ e
    go false true e = e
    go false false e = e

-- Terms as they stand in some others, the first one last.
use Rattle.std.proofs.Common.{◌≡◌, ℕ, suc, ◌+◌, ◌-◌, List, [], ◌∷◌, ◌++◌, length, reverse, take, drop, refl, sym, ◌∙◌, ap, ap₂, arith, append_assoc, append-nil}
use Rattle.std.proofs.lemmas.List.{reverse-append, reverse-reverse, length-reverse, length-append, map-append, length-map, take-map, drop-map, same_from_push}
use Rattle.vx_terms.specs.Terms.{Term, Truth, Number, Part, Constant, Apply, Not, Binary, Ite, AllOf, SomeOf, Terms, NoTerms, MoreTerms}
use Rattle.cs_certificate.specs.Terms.{items, parts, subterms, all_subterms, parts_of}
use Rattle.cs_numbers.specs.Numbering.{added}
use Rattle.cs_numbers.specs.Inner.{inner}
use Rattle.vx_terms.specs.Views.{term}
use Rattle.cs_numbers.specs.declared.occurrence.Occurrence.{Occurrence}
use Rattle.cs_numbers.specs.Forest.{seen, IsForest, IsFirst}
use Rattle.cs_numbers.proofs.Added.{added_append}
use Rattle.cs_numbers.proofs.Kept.{first_inner}

-- ---- all that stands in a term is what its parts are
items_parts : (ts : Terms) → all_subterms ts ≡ parts_of (items ts)
items_parts NoTerms = refl
items_parts (MoreTerms t ts) = ap (λ us. subterms t ++ us) (items_parts ts)

pub inner_parts : (t : Term) → inner t ≡ parts_of (parts t)
inner_parts (Truth b) = refl
inner_parts (Number z) = refl
inner_parts (Part a) = refl
inner_parts (Constant f a) = refl
inner_parts (Apply f a ts) = items_parts ts
inner_parts (Not t) = sym (append-nil (subterms t))
inner_parts (Binary o t u) = ap (λ us. subterms t ++ us) (sym (append-nil (subterms u)))
inner_parts (Ite c t u) = ap (λ us. subterms c ++ (subterms t ++ us)) (sym (append-nil (subterms u)))
inner_parts (AllOf ts) = items_parts ts
inner_parts (SomeOf ts) = items_parts ts

pub forest_within : (us : List Term) (t : Term) → us ≡ reverse (inner t) → IsForest us
forest_within us t e = record { of = parts t; is = e ∙ ap reverse (inner_parts t) }

pub forest_one : (us : List Term) (t : Term) → us ≡ [] ++ reverse (subterms t) → IsForest us
forest_one us t e = record { of = t ∷ []; is = e ∙ ap reverse (sym (append-nil (subterms t))) }

-- ---- the last one, what stands in it, and the others
less : {m n : ℕ} → suc m ≡ suc n → m ≡ n
less e = omega arith

first_of : {A : Type 0} {x y : A} {xs ys : List A} → x ∷ xs ≡ y ∷ ys → (x ≡ y) × (xs ≡ ys)
first_of e = (cc, cc)

no_end : {A : Type 0} (xs : List A) (x : A) → [] ≡ xs ++ x ∷ [] → ⊥
no_end [] x e = cc
no_end (y ∷ xs) x e = cc

turned : (t : Term) (us : List Term) → reverse (subterms t ++ us) ≡ (reverse us ++ reverse (inner t)) ++ t ∷ []
turned t us =
    reverse-append (subterms t) us ∙ ap (λ xs. reverse us ++ reverse xs) (first_inner t)
    ∙ ap (λ xs. reverse us ++ xs) (reverse-append (t ∷ []) (inner t))
    ∙ sym (append_assoc (reverse us) (reverse (inner t)) (t ∷ []))

pub record Parted (before : List Term) (l : Term) : Type 0 where
  pub others : List Term
  pub is : before ≡ reverse (parts_of others) ++ reverse (inner l)

parted : (us before : List Term) (l : Term) → IsForest us → us ≡ before ++ l ∷ [] → Parted before l
parted us before l f e = go f.of f.is
  where
    go : (ts : List Term) → us ≡ reverse (parts_of ts) → Parted before l
    go [] is = absurd (no_end before l (sym is ∙ e))
    go (t ∷ ts) is =
        let h = same_from_push before (reverse (parts_of ts) ++ reverse (inner t)) l t (sym e ∙ is ∙ turned t (parts_of ts)) in
        record { others = ts; is = h.0 ∙ ap (λ x. reverse (parts_of ts) ++ reverse (inner x)) (sym h.1) }

take_front : {A : Type 0} (xs ys : List A) → take (length xs) (xs ++ ys) ≡ xs
take_front [] ys = refl
take_front (x ∷ xs) ys = ap (λ zs. x ∷ zs) (take_front xs ys)

drop_front : {A : Type 0} (xs ys : List A) → drop (length xs) (xs ++ ys) ≡ ys
drop_front [] ys = refl
drop_front (x ∷ xs) ys = drop_front xs ys

-- n is where the last one's own begin, behind those of the others
begins : (before ts : List Term) (l : Term) (n : ℕ) → before ≡ reverse (parts_of ts) ++ reverse (inner l) → n ≡ length before - length (inner l) → n ≡ length (reverse (parts_of ts))
begins before ts l n e at =
    let a : length before ≡ length (reverse (parts_of ts)) + length (reverse (inner l)) = ap length e ∙ length-append (reverse (parts_of ts)) (reverse (inner l)) in
    let b : length (reverse (inner l)) ≡ length (inner l) = length-reverse (inner l) in
    omega arith

front_is : (before others ts : List Term) (l : Term) (n : ℕ) → before ≡ reverse (parts_of ts) ++ reverse (inner l) → n ≡ length before - length (inner l) → others ≡ take n before → others ≡ reverse (parts_of ts)
front_is before others ts l n e at o = o ∙ ap₂ take (begins before ts l n e at) e ∙ take_front (reverse (parts_of ts)) (reverse (inner l))

-- the last one is the first root, and the other roots make the others
first_root : (us before others : List Term) (l : Term) (n : ℕ) → us ≡ before ++ l ∷ [] → n ≡ length before - length (inner l) → others ≡ take n before → (ts : List Term) → us ≡ reverse (parts_of ts) → IsFirst ts l others
first_root us before others l n e at o [] is = absurd (no_end before l (sym is ∙ e))
first_root us before others l n e at o (t ∷ ts) is =
    let h = same_from_push before (reverse (parts_of ts) ++ reverse (inner t)) l t (sym e ∙ is ∙ turned t (parts_of ts)) in
    record {
      others = ts;
      first = ap (λ x. x ∷ ts) (sym h.1);
      is = front_is before others ts l n (h.0 ∙ ap (λ x. reverse (parts_of ts) ++ reverse (inner x)) (sym h.1)) at o;
    }

pub no_roots : (ts : List Term) → [] ≡ reverse (parts_of ts) → ts ≡ []
no_roots [] e = refl
no_roots (t ∷ ts) e = absurd (no_end (reverse (parts_of ts) ++ reverse (inner t)) t (e ∙ turned t (parts_of ts)))

-- one turn of a walk from the last one on
module _ (us before others within : List Term) (l : Term) (n : ℕ) (e : us ≡ before ++ l ∷ []) (f : IsForest us) (at : n ≡ length before - length (inner l)) (o : others ≡ take n before) (w : within ≡ drop n before) where
  p : Parted before l
  p = parted us before l f e

  pub others_are : IsForest others
  others_are = record { of = p.others; is = front_is before others p.others l n p.is at o }

  pub within_are : within ≡ reverse (inner l)
  within_are = w ∙ ap₂ drop (begins before p.others l n p.is at) p.is ∙ drop_front (reverse (parts_of p.others)) (reverse (inner l))

  pub one_turn : (terms : List Term) → added terms (reverse us) ≡ added (added terms (subterms l)) (reverse others)
  unfolding p others_are
  one_turn terms =
      ap (λ xs. added terms (reverse xs)) (e ∙ ap (λ xs. xs ++ l ∷ []) (p.is ∙ ap (λ xs. xs ++ reverse (inner l)) (sym others_are.is)))
      ∙ ap (added terms) (
      reverse-append (others ++ reverse (inner l)) (l ∷ [])
      ∙ ap (λ xs. l ∷ xs) (reverse-append others (reverse (inner l)) ∙ ap (λ xs. xs ++ reverse others) (reverse-reverse (inner l)))
      ∙ ap (λ xs. xs ++ reverse others) (sym (first_inner l))
      )
      ∙ added_append terms (subterms l) (reverse others)

-- and the same of code's list
module _ (left before others within : List Occurrence) (last : Occurrence) (n : ℕ) (e : left ≡ before ++ last ∷ []) (f : IsForest (seen left)) (at : n ≡ length before - last.within) (o : others ≡ take n before) (w : within ≡ drop n before) where
  whole : seen left ≡ seen before ++ term last.of.value ∷ []
  whole = ap seen e ∙ map-append (λ x. term x.of.value) before (last ∷ [])

  place : n ≡ length (seen before) - length (inner (term last.of.value))
  place = at ∙ ap₂ (λ a b. a - b) (sym (length-map before (λ x. term x.of.value))) last.counted

  front : seen others ≡ take n (seen before)
  front = ap seen o ∙ sym (take-map (λ x. term x.of.value) n before)

  back : seen within ≡ drop n (seen before)
  back = ap seen w ∙ sym (drop-map (λ x. term x.of.value) n before)

  pub others_seen : IsForest (seen others)
  others_seen = others_are (seen left) (seen before) (seen others) (seen within) (term last.of.value) n whole f place front back

  pub within_seen : seen within ≡ reverse (inner (term last.of.value))
  within_seen = within_are (seen left) (seen before) (seen others) (seen within) (term last.of.value) n whole f place front back

  pub turn_seen : (terms : List Term) → added terms (reverse (seen left)) ≡ added (added terms (subterms (term last.of.value))) (reverse (seen others))
  turn_seen terms = one_turn (seen left) (seen before) (seen others) (seen within) (term last.of.value) n whole f place front back terms

  pub first_seen : (ts : List Term) → seen left ≡ reverse (parts_of ts) → IsFirst ts (term last.of.value) (seen others)
  first_seen = first_root (seen left) (seen before) (seen others) (term last.of.value) n whole place front

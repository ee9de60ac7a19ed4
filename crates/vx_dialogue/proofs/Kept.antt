-- What is kept of the last path is the beginning of the new one, and ends where a level does.
use Rattle.std.proofs.Common.{◌≡◌, ℕ, suc, ◌≤◌, Bool, true, false, nat_eq, if◌then◌else◌, List, [], ◌∷◌, ◌++◌, drop, take, length, Option, Some, None, refl, sym, ◌∙◌, ap, ap₂, subst, append_assoc, length-append, arith}
use Rattle.std.proofs.lemmas.Bool.{eqb-true, and_parts}
use Rattle.vx_terms.specs.Terms.{same}
use Rattle.vx_terms.proofs.Same.{term_is}
use Rattle.vx_segments.specs.Segments.{Entry}
use Rattle.vx_dialogue.specs.Segments.{last_of}
use Rattle.vx_dialogue.specs.Kept.{same_entry, kept_from, kept}
use Rattle.vx_dialogue.proofs.Extends.{drop_front}
use Rattle.vx_dialogue.proofs.Entries.{Begins}

one_entry : (a b : Entry) → same_entry a b ≡ true → a ≡ b
one_entry a b h =
    let p = and_parts (nat_eq a.segment b.segment) (same a.term b.term) h in
    let s = eqb-true a.segment b.segment p.0 in
    let t = term_is a.term b.term p.1 in
    λ i. record { segment = s i; term = t i }

some_is : (y x : ℕ) → Some y ≡ Some x → y ≡ x
some_is y x e = ap (λ (o : Option ℕ). elim o as (λ o. ℕ) [ None ↦ y | Some z ↦ z ]) e

none_some : (x : ℕ) {P : Type 0} → None ≡ Some x → P
none_some x e = absurd (cc)

take_front : (xs ys : List Entry) → take (length xs) (xs ++ ys) ≡ xs
take_front [] ys = refl
take_front (x ∷ xs) ys = ap (λ zs. x ∷ zs) (take_front xs ys)

pub last_end : (last : ℕ) (xs : List Entry) (x : Entry) → last_of last (xs ++ x ∷ []) ≡ x.segment
last_end last [] x = refl
last_end last (y ∷ xs) x = last_end y.segment xs x

length_end : (xs : List Entry) (x : Entry) → length (xs ++ x ∷ []) ≡ suc (length xs)
length_end [] x = refl
length_end (y ∷ xs) x = ap suc (length_end xs x)

-- so many entries of the old path begin the new one, and the next one begins a segment
pub record Good (old new : List Entry) (k : ℕ) : Type 0 where
  pub within : k ≤ length old
  pub beside : k ≤ length new
  pub common : take k old ≡ take k new
  pub begins : Begins (last_of 0 (take k old)) (drop k old)

module _ (old new : List Entry) where
  -- where the two part behind a common beginning, at the beginning of a segment
  good_here : (front rest others : List Entry) → old ≡ front ++ rest → new ≡ front ++ others → Begins (last_of 0 front) rest → Good old new (length front)
  good_here front rest others is also h = record {
    within = let all = ap length is ∙ length-append front rest in omega arith;
    beside = let all = ap length also ∙ length-append front others in omega arith;
    common = ap (take (length front)) is ∙ take_front front rest ∙ sym (take_front front others) ∙ sym (ap (take (length front)) also);
    begins = subst (λ xs. Begins (last_of 0 xs) (drop (length front) old)) (sym (ap (take (length front)) is ∙ take_front front rest))
        (subst (Begins (last_of 0 front)) (sym (ap (drop (length front)) is ∙ drop_front front rest)) h);
  }

  abbrev pub GoodStart : Option ℕ → Type 0
  GoodStart start = (s : ℕ) → start ≡ Some s → Good old new s

  here_good : (start : Option ℕ) (front : List Entry) (a : Entry) (rest others : List Entry) → old ≡ front ++ a ∷ rest → new ≡ front ++ others
      → GoodStart start → (b : Bool) → nat_eq a.segment (last_of 0 front) ≡ b → GoodStart (if b then start else Some (length front))
  here_good start front a rest others is also h true e s is_s = h s is_s
  here_good start front a rest others is also h false e s is_s = subst (Good old new) (some_is (length front) s is_s) (good_here front (a ∷ rest) others is also e)

  -- by whether the two next entries are one
  next_good : (start here on : Option ℕ) (b : Bool) → GoodStart here → (b ≡ true → GoodStart on) → GoodStart (if b then on else here)
  next_good start here on false h g = h
  next_good start here on true h g = g refl

  kept_good : (as' : List Entry) (front bs : List Entry) (start : Option ℕ) (last place : ℕ) → last ≡ last_of 0 front → place ≡ length front → old ≡ front ++ as' → new ≡ front ++ bs
      → GoodStart start → GoodStart (kept_from last start place as' bs)
  kept_good [] front bs start last place l p is also h s e =
      subst (Good old new) (sym p ∙ some_is place s e) (good_here front [] bs is also tt)
  kept_good (a ∷ as') front [] start last place l p is also h s e =
      here_good start front a as' [] is also h (nat_eq a.segment (last_of 0 front)) refl s (sym (ap₂ (λ x y. if nat_eq a.segment x then start else Some y) l p) ∙ e)
  kept_good (a ∷ as') front (b ∷ bs) start last place l p is also h s e =
      let here : Option ℕ = if nat_eq a.segment last then start else Some place in
      let good : GoodStart here = λ s e.
      here_good start front a as' (b ∷ bs) is also h (nat_eq a.segment (last_of 0 front)) refl s (sym (ap₂ (λ x y. if nat_eq a.segment x then start else Some y) l p) ∙ e) in
      next_good start here (kept_from a.segment here (suc place) as' bs) (same_entry a b) good
      (λ f. kept_good as' (front ++ a ∷ []) bs here a.segment (suc place) (sym (last_end 0 front a)) (ap suc p ∙ sym (length_end front a))
      (is ∙ sym (append_assoc front (a ∷ []) as')) (also ∙ ap (λ x. front ++ x ∷ bs) (sym (one_entry a b f)) ∙ sym (append_assoc front (a ∷ []) bs)) good)
      s e

-- what is kept begins both paths
pub kept_is : (old new : List Entry) (k : ℕ) → kept old new ≡ Some k → Good old new k
kept_is old new k e = kept_good old new old [] new None 0 0 refl refl refl refl (λ s f. none_some s f) k e

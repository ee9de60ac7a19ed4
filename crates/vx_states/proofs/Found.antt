-- Terms are found again by their keys.
use Rattle.std.proofs.Common.{◌≡◌, ℕ, suc, ◌+◌, ◌%◌, ◌/◌, Bool, true, false, List, ◌||◌, refl, sym, ap, ◌∙◌, eqb-true, arith}
use Rattle.vx_terms.specs.Terms.{Term, same}
use Rattle.vx_states.specs.Keys.{key_of}
use Rattle.std.specs.Prelude.{if◌then◌else◌}
use Rattle.vx_states.specs.declared.index.Index.{Index}
use Rattle.vx_states.specs.declared.index.Index.TheVariants as index'
use Rattle.vx_states.specs.Index.{is_even, down, finds, IsAlike, IsExtended, IsIndexed}
use Rattle.vx_rules.specs.States.{Entry}
use Rattle.vx_states.specs.Paths.{extended}
use Rattle.vx_states.proofs.Stores.{in_path_extended}
use Rattle.vx_terms.proofs.Same.{term_is}

or_false : (a : Bool) → a ≡ (a || false)
or_false true = refl
or_false false = refl

or_after : (a b : Bool) → (a || b) ≡ (b || a)
or_after true true = refl
or_after true false = refl
or_after false true = refl
or_after false false = refl

-- a further entry: the index still finds what the path holds
pub indexed_more : (es : List Entry) (old new : Index) (t : Term) (branch : Bool) → IsIndexed es old → IsExtended old new 0 t → IsIndexed (extended es t branch) new
indexed_more es old new t branch h x u = x u ∙ ap (λ b. b || same u t) (h u) ∙ sym (in_path_extended u es t branch)

-- in front of an alike one
pub in_front : (old copy : Index) (t : Term) → IsAlike copy old → (k : ℕ) (u : Term) → (same u t || finds copy k u) ≡ (finds old k u || same u t)
in_front old copy t h k u = rw (h k u) (or_after (same u t) (finds old k u))

pub even_is : (k : ℕ) → k % 2 ≡ 0 → is_even k ≡ true
even_is k e = rw e refl

pub odd_is : (k : ℕ) → (k % 2 ≡ 0 → ⊥) → is_even k ≡ false
odd_is k odd = go (is_even k) refl
  where
    go : (b : Bool) → is_even k ≡ b → is_even k ≡ false
    go true e = absurd (odd (eqb-true (k % 2) 0 e))
    go false e = e

-- the key of a term on a level
abbrev pub key_at : ℕ → Term → ℕ
key_at level t = down level (key_of t 4)

pub plus_one : (n : ℕ) → n + 1 ≡ suc n
plus_one n = omega arith

-- the key one level further
pub below : (level k key : ℕ) → key ≡ down level k → key / 2 ≡ down (level + 1) k
below level k key e = ap (λ j. j / 2) e ∙ ap (λ m. down m k) (sym (plus_one level))

-- terms whose keys are told apart there are two
two_terms : (level : ℕ) (w t : Term) (b c : Bool) → is_even (key_at level w) ≡ b → is_even (key_at level t) ≡ c → (b ≡ c → ⊥) → same w t ≡ false
two_terms level w t b c e f apart = go (same w t) refl
  where
    go : (s : Bool) → same w t ≡ s → s ≡ false
    go false is = refl
    go true is = absurd (apart (sym e ∙ ap (λ v. is_even (key_at level v)) (term_is w t is) ∙ f))

-- in the half of the even keys, and in that of the odd ones
pub on_even : (even odd new : Index) (level : ℕ) (t : Term) → is_even (key_at level t) ≡ true → IsExtended even new (suc level) t → (w : Term) →
    (if is_even (key_at level w) then finds new (key_at level w / 2) w else finds odd (key_at level w / 2) w)
    ≡ ((if is_even (key_at level w) then finds even (key_at level w / 2) w else finds odd (key_at level w / 2) w) || same w t)
on_even even odd new level t e h w = go (is_even (key_at level w)) refl
  where
    go : (b : Bool) → is_even (key_at level w) ≡ b →
        (if is_even (key_at level w) then finds new (key_at level w / 2) w else finds odd (key_at level w / 2) w)
        ≡ ((if is_even (key_at level w) then finds even (key_at level w / 2) w else finds odd (key_at level w / 2) w) || same w t)
    go true b = rw b (h w)
    go false b = rw (b, two_terms level w t false true b e (λ k. cc)) (or_false (finds odd (key_at level w / 2) w))

pub on_odd : (even odd new : Index) (level : ℕ) (t : Term) → is_even (key_at level t) ≡ false → IsExtended odd new (suc level) t → (w : Term) →
    (if is_even (key_at level w) then finds even (key_at level w / 2) w else finds new (key_at level w / 2) w)
    ≡ ((if is_even (key_at level w) then finds even (key_at level w / 2) w else finds odd (key_at level w / 2) w) || same w t)
on_odd even odd new level t e h w = go (is_even (key_at level w)) refl
  where
    go : (b : Bool) → is_even (key_at level w) ≡ b →
        (if is_even (key_at level w) then finds even (key_at level w / 2) w else finds new (key_at level w / 2) w)
        ≡ ((if is_even (key_at level w) then finds even (key_at level w / 2) w else finds odd (key_at level w / 2) w) || same w t)
    go true b = rw (b, two_terms level w t true false b e (λ k. cc)) (or_false (finds even (key_at level w / 2) w))
    go false b = rw b (h w)

-- Two terms and no other: what is found is the second or the first
abbrev pub AreTwo : (new : Index) (level : ℕ) (t u : Term) → Type 0
AreTwo new level t u = (w : Term) → finds new (key_at level w) w ≡ ((same w u || false) || same w t)

one_of : (a b : Bool) → (a || (b || false)) ≡ ((b || false) || a)
one_of true true = refl
one_of true false = refl
one_of false true = refl
one_of false false = refl

first_of : (a : Bool) → (a || false) ≡ ((false || false) || a)
first_of true = refl
first_of false = refl

second_of : (b : Bool) → (b || false) ≡ ((b || false) || false)
second_of true = refl
second_of false = refl

-- the first in front of the second
pub in_one_place : (t u w : Term) → (same w t || (same w u || false)) ≡ ((same w u || false) || same w t)
in_one_place t u w = one_of (same w t) (same w u)

-- one on each side
pub first_even : (new : Index) (level : ℕ) (t u : Term) → is_even (key_at level t) ≡ true → is_even (key_at level u) ≡ false →
    ((k : ℕ) (w : Term) → finds new k w ≡ (if is_even k then (same w t || false) else (same w u || false))) → AreTwo new level t u
first_even new level t u e f h w = h (key_at level w) w ∙ go (is_even (key_at level w)) refl
  where
    go : (b : Bool) → is_even (key_at level w) ≡ b → (if is_even (key_at level w) then (same w t || false) else (same w u || false)) ≡ ((same w u || false) || same w t)
    go true b = rw (b, two_terms level w u true false b f (λ k. cc)) (first_of (same w t))
    go false b = rw (b, two_terms level w t false true b e (λ k. cc)) (second_of (same w u))

pub first_odd : (new : Index) (level : ℕ) (t u : Term) → is_even (key_at level t) ≡ false → is_even (key_at level u) ≡ true →
    ((k : ℕ) (w : Term) → finds new k w ≡ (if is_even k then (same w u || false) else (same w t || false))) → AreTwo new level t u
first_odd new level t u e f h w = h (key_at level w) w ∙ go (is_even (key_at level w)) refl
  where
    go : (b : Bool) → is_even (key_at level w) ≡ b → (if is_even (key_at level w) then (same w u || false) else (same w t || false)) ≡ ((same w u || false) || same w t)
    go true b = rw (b, two_terms level w t true false b e (λ k. cc)) (second_of (same w u))
    go false b = rw (b, two_terms level w u false true b f (λ k. cc)) (first_of (same w t))

-- both on one side, and nothing on the other
pub both_even : (rest empty : Index) (level : ℕ) (t u : Term) → is_even (key_at level t) ≡ true → is_even (key_at level u) ≡ true → empty ≡ index'.Nothing → AreTwo rest (suc level) t u → (w : Term) →
    (if is_even (key_at level w) then finds rest (key_at level w / 2) w else finds empty (key_at level w / 2) w) ≡ ((same w u || false) || same w t)
both_even rest empty level t u e f o h w = rw o (go (is_even (key_at level w)) refl)
  where
    go : (b : Bool) → is_even (key_at level w) ≡ b → (if is_even (key_at level w) then finds rest (key_at level w / 2) w else false) ≡ ((same w u || false) || same w t)
    go true b = rw b (h w)
    go false b = rw (b, two_terms level w u false true b f (λ k. cc), two_terms level w t false true b e (λ k. cc)) refl

pub both_odd : (rest empty : Index) (level : ℕ) (t u : Term) → is_even (key_at level t) ≡ false → is_even (key_at level u) ≡ false → empty ≡ index'.Nothing → AreTwo rest (suc level) t u → (w : Term) →
    (if is_even (key_at level w) then finds empty (key_at level w / 2) w else finds rest (key_at level w / 2) w) ≡ ((same w u || false) || same w t)
both_odd rest empty level t u e f o h w = rw o (go (is_even (key_at level w)) refl)
  where
    go : (b : Bool) → is_even (key_at level w) ≡ b → (if is_even (key_at level w) then false else finds rest (key_at level w / 2) w) ≡ ((same w u || false) || same w t)
    go true b = rw (b, two_terms level w u true false b f (λ k. cc), two_terms level w t true false b e (λ k. cc)) refl
    go false b = rw b (h w)

-- Tests of numbers.
use Rattle.std.proofs.Common.{◌≡◌, ◌+◌, ◌<◌, ℕ, suc, Bool, true, false, List, ◌∷◌, length, drop, drop-cons, get_or, refl, sym, ap, ◌∙◌, arith}
use Rattle.std.specs.Prelude.{nat_eq}
use Rattle.std.proofs.lemmas.Bool.{eq-eqb, eqb-true}

pub itself : (n : ℕ) → nat_eq n n ≡ true
itself n = eq-eqb n n refl

pub unequal : (a b : ℕ) → (a ≡ b → ⊥) → nat_eq a b ≡ false
unequal a b h = go (nat_eq a b) refl
  where
    go : (t : Bool) → nat_eq a b ≡ t → t ≡ false
    go true e = absurd (h (eqb-true a b e))
    go false e = refl

pub different : (a b : ℕ) → nat_eq a b ≡ false → a ≡ b → ⊥
different a b e same = absurd (let f : true ≡ false = sym (eq-eqb a b same) ∙ e in cc)

pub both_more : (a b : ℕ) → nat_eq (suc a) (suc b) ≡ nat_eq a b
both_more a b = go (nat_eq a b) refl
  where
    go : (t : Bool) → nat_eq a b ≡ t → nat_eq (suc a) (suc b) ≡ t
    go true e = eq-eqb (suc a) (suc b) (ap suc (eqb-true a b e))
    go false e = unequal (suc a) (suc b) (λ same. different a b e (omega arith))

pub drop_next : (xs : List ℕ) (i : ℕ) → i < length xs → drop i xs ≡ get_or xs i 0 ∷ drop (i + 1) xs
drop_next xs i lt = let e : suc i ≡ i + 1 = omega arith in drop-cons xs i 0 lt ∙ ap (λ n. get_or xs i 0 ∷ drop n xs) e

-- The largest of two lists, one behind the other.
use Rattle.std.proofs.Common.{◌≡◌, ℕ, ◌<◌, cond, List, [], ◌∷◌, ◌++◌, sym, ◌∙◌, ap, arith}
use Rattle.std.specs.Prelude.{nat_lt, flat_map}
use Rattle.std.proofs.lemmas.Bool.Decides.{nat_tests}
use Rattle.std.proofs.lemmas.List.Concat.{flat_map-cons}
use Rattle.vx_run.specs.Fresh.{largest}

abbrev larger : ℕ → ℕ → ℕ
larger r s = cond (nat_lt s r) r s

larger_on : (a b c : ℕ) → larger (larger a b) c ≡ larger a (larger b c)
larger_on a b c = grind (arith, nat_tests)

no_less : (a : ℕ) → larger 0 a ≡ a
no_less a = grind (arith, nat_tests)

no_more : (a : ℕ) → larger a 0 ≡ a
no_more a = grind (arith, nat_tests)

pub alone : (a : ℕ) → a ≡ largest (a ∷ [])
alone a = sym (no_more a)

pub first_of_two : (a b : ℕ) → b < a → a ≡ largest (a ∷ b ∷ [])
first_of_two a b h = grind (arith, nat_tests)

pub second_of_two : (a b : ℕ) → (b < a → ⊥) → b ≡ largest (a ∷ b ∷ [])
second_of_two a b h = grind (arith, nat_tests)

largest_of : (xs ys : List ℕ) → largest (largest xs ∷ ys) ≡ largest (xs ++ ys)
largest_of [] ys = no_less (largest ys)
largest_of (x ∷ xs) ys = larger_on x (largest xs) (largest ys) ∙ ap (larger x) (largest_of xs ys)

-- the largest of a list is found in parts
pub largest_on : (n : ℕ) (xs ys : List ℕ) → largest (largest (n ∷ xs) ∷ ys) ≡ largest (n ∷ (xs ++ ys))
largest_on n xs ys = largest_of (n ∷ xs) ys

larger_turned : (a b : ℕ) → larger a b ≡ larger b a
larger_turned a b = grind (arith, nat_tests)

-- in either order
pub largest_before : (n : ℕ) (xs ys : List ℕ) → largest (largest (n ∷ xs) ∷ ys) ≡ largest (n ∷ (ys ++ xs))
largest_before n xs ys =
    larger_on n (largest xs) (largest ys)
    ∙ ap (larger n) (larger_turned (largest xs) (largest ys) ∙ largest_of ys xs)

-- one item more
pub largest_more : {A : Type 0} (f : A → List ℕ) (n : ℕ) (x : A) (xs : List A) → largest (largest (n ∷ f x) ∷ flat_map f xs) ≡ largest (n ∷ flat_map f (x ∷ xs))
largest_more f n x xs = largest_on n (f x) (flat_map f xs) ∙ ap (λ (l : List ℕ). largest (n ∷ l)) (sym (flat_map-cons f x xs))

-- an entry of a heap more: its receiver and its value
pub entry_more : (n r : ℕ) (xs ys : List ℕ) → largest (largest (largest (n ∷ r ∷ []) ∷ xs) ∷ ys) ≡ largest (n ∷ ((r ∷ xs) ++ ys))
entry_more n r xs ys = largest_on (largest (n ∷ r ∷ [])) xs ys ∙ largest_on n (r ∷ []) (xs ++ ys)

-- an item in front
pub largest_in_front : {A : Type 0} (f : A → List ℕ) (n : ℕ) (x : A) (xs : List A) → largest (largest (n ∷ flat_map f xs) ∷ f x) ≡ largest (n ∷ flat_map f (x ∷ xs))
largest_in_front f n x xs = largest_before n (flat_map f xs) (f x) ∙ ap (λ (l : List ℕ). largest (n ∷ l)) (sym (flat_map-cons f x xs))

pub from_none : (xs : List ℕ) → largest (0 ∷ xs) ≡ largest xs
from_none xs = no_less (largest xs)

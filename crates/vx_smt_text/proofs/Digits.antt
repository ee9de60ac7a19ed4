use Rattle.std.proofs.Common.{◌≡◌, ℕ, ◌<◌, ◌+◌, ◌/◌, ◌%◌, List, [], ◌∷◌, ◌++◌, map, refl, arith, ap, ◌∙◌}
use Rattle.std.specs.Int.Digits.{digits_of}
use Rattle.std.proofs.lemmas.Int.Digits.{digits_of_step}
use Rattle.vx_smt_meaning.specs.Words.{digits}

pub digits_none : (n : ℕ) → n ≡ 0 → digits n ≡ []
unfolding digits
digits_none n e = rw e refl

map_append : (f : ℕ → ℕ) (xs ys : List ℕ) → map f (xs ++ ys) ≡ map f xs ++ map f ys
map_append f [] ys = refl
map_append f (x ∷ xs) ys = ap (λ l. f x ∷ l) (map_append f xs ys)

pub digits_more : (n : ℕ) → 0 < n → digits n ≡ digits (n / 10) ++ (48 + n % 10) ∷ []
unfolding digits
digits_more n some = ap (map (λ d. 48 + d)) (digits_of_step 10 n (omega arith) some) ∙ map_append _ (digits_of 10 (n / 10)) (n % 10 ∷ [])

-- One item more of a list's front.
use Rattle.std.proofs.Common.{◌≡◌, ℕ, zero, suc, ◌+◌, ◌<◌, List, [], ◌∷◌, ◌++◌, length, take, get_or, refl, sym, ◌∙◌, ap, add-one, arith}

more : {A : Type 0} (xs : List A) (n : ℕ) (x : A) → n < length xs → x ≡ get_or xs n x → take (suc n) xs ≡ take n xs ++ x ∷ []
more [] n x lt is = absurd (omega arith)
more (y ∷ xs) zero x lt is = ap (λ z. z ∷ []) (sym is)
more (y ∷ xs) (suc n) x lt is = ap (λ zs. y ∷ zs) (more xs n x (omega arith) is)

pub front_more : {A : Type 0} (xs : List A) (n : ℕ) (x : A) → n < length xs → x ≡ get_or xs n x → take (n + 1) xs ≡ take n xs ++ x ∷ []
front_more xs n x lt is = ap (λ k. take k xs) (add-one n) ∙ more xs n x lt is

pub front_long : {A : Type 0} (xs : List A) (n : ℕ) → n < length xs → length (take n xs) ≡ n
front_long [] n lt = absurd (omega arith)
front_long (y ∷ xs) zero lt = refl
front_long (y ∷ xs) (suc n) lt = ap suc (front_long xs n (omega arith))

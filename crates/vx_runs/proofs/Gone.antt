-- What a taking took, and what giving the same assertion adds.
use Rattle.std.proofs.Common.{arith, ◌≡◌, ℕ, zero, suc, ◌+◌, ◌-◌, [], ◌∷◌, ◌++◌, length, take, refl, sym, ◌∙◌, ap}
use Rattle.vx_meaning.specs.States.{Holdings}
use Rattle.vx_runs.specs.Whole.{given_back, gone}

-- what stays is what was there behind some entries
pub record Behind (h left : Holdings) : Type 0 where
  pub taken : Holdings
  pub is : left ≡ taken ++ h

module _ where
  more_length : (xs ys : Holdings) → length (xs ++ ys) ≡ length xs + length ys
  more_length [] ys = let z : length ys ≡ zero + length ys = omega arith in z
  more_length (x ∷ xs) ys = ap suc (more_length xs ys) ∙ (let z : suc (length xs + length ys) ≡ suc (length xs) + length ys = omega arith in z)

  first_ones : (xs ys : Holdings) → take (length xs) (xs ++ ys) ≡ xs
  first_ones [] ys = refl
  first_ones (x ∷ xs) ys = ap (λ (z : Holdings). x ∷ z) (first_ones xs ys)

  less : (m n : ℕ) → (m + n) - n ≡ m
  less m n = omega arith

-- what stands in front
pub front_of : (xs ys : Holdings) → take (length (xs ++ ys) - length ys) (xs ++ ys) ≡ xs
front_of xs ys = ap (λ (n : ℕ). take (n - length ys) (xs ++ ys)) (more_length xs ys) ∙ ap (λ (n : ℕ). take n (xs ++ ys)) (less (length xs) (length ys)) ∙ first_ones xs ys

pub same_front : (xs ys zs : Holdings) → xs ++ zs ≡ ys ++ zs → xs ≡ ys
same_front xs ys zs e = sym (front_of xs zs) ∙ ap (λ (h : Holdings). take (length h - length zs) h) e ∙ front_of ys zs

-- what was taken is what stands in front
pub gone_is : (h left : Holdings) (b : Behind h left) → gone h left ≡ given_back b.taken
gone_is h left b = ap given_back (ap (λ (z : Holdings). take (length z - length h) z) b.is ∙ ap (λ (n : ℕ). take (n - length h) (b.taken ++ h)) (more_length b.taken h) ∙ ap (λ (n : ℕ). take n (b.taken ++ h)) (less (length b.taken) (length h)) ∙ first_ones b.taken h)

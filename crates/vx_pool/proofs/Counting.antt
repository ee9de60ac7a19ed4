-- Lists, one more at a time.
use Rattle.std.proofs.Common.{◌≡◌, ℕ, zero, suc, ◌+◌, ◌<◌, Bool, true, false, List, [], ◌∷◌, Some, None, Option, slice_get, slice_set, get_or, take, length, refl, ap, arith, ◌⊎◌, inl, inr}
use Rattle.vx_pool.specs.Counts.{count, total}

abbrev pub one_of : Option Bool → ℕ
one_of (Some true) = 1
one_of (Some false) = 0
one_of None = 0

pub count_more : (bs : List (Option Bool)) (i : ℕ) → i < length bs → count (take (suc i) bs) ≡ count (take i bs) + one_of (get_or bs i None)
count_more [] i within = omega arith
count_more (Some true ∷ bs) zero within = refl
count_more (Some false ∷ bs) zero within = refl
count_more (None ∷ bs) zero within = refl
count_more (Some true ∷ bs) (suc i) within = let e = count_more bs i (omega arith) in omega arith
count_more (Some false ∷ bs) (suc i) within = count_more bs i (omega arith)
count_more (None ∷ bs) (suc i) within = count_more bs i (omega arith)

-- one that waits is counted
pub some_waits : (bs : List (Option Bool)) (i : ℕ) → get_or bs i None ≡ Some true → 0 < count bs
some_waits [] i is = grind arith
some_waits (Some true ∷ bs) i is = omega arith
some_waits (Some false ∷ bs) zero is = grind arith
some_waits (None ∷ bs) zero is = grind arith
some_waits (Some false ∷ bs) (suc i) is = some_waits bs i is
some_waits (None ∷ bs) (suc i) is = some_waits bs i is

-- where one of a list is less, their sum is
pub total_less : {A : Type 0} (f : A → ℕ) (xs : List A) (i : ℕ) (x y : A) → slice_get xs i ≡ Some x → f y < f x → total f (slice_set xs i y) < total f xs
total_less f [] i x y is less = grind arith
total_less f (z ∷ xs) zero x y is less = grind arith
total_less f (z ∷ xs) (suc i) x y is less = let e = total_less f xs i x y is less in omega arith

-- what is read after a write
pub read_set : {A : Type 0} (xs : List A) (i j : ℕ) (y x : A) → slice_get (slice_set xs i y) j ≡ Some x → ((j ≡ i) × (x ≡ y)) ⊎ ((j ≡ i → ⊥) × (slice_get xs j ≡ Some x))
read_set [] i j y x is = grind arith
read_set (z ∷ xs) zero zero y x is = inl (refl, grind arith)
read_set (z ∷ xs) zero (suc j) y x is = inr (λ e. omega arith, is)
read_set (z ∷ xs) (suc i) zero y x is = inr (λ e. omega arith, is)
read_set (z ∷ xs) (suc i) (suc j) y x is = elim (read_set xs i j y x is) [ inl s ↦ inl (ap suc s.0, s.1) | inr s ↦ inr (λ e. s.0 (omega arith), s.1) ]

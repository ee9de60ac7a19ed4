-- Lists whose parts are taken one after the other.
use Rattle.std.proofs.Common.{◌≡◌, ℕ, zero, suc, ◌+◌, ◌<◌, ◌≤◌, ◌++◌, ◌∷◌, [], List, Some, length, map, take, drop, slice_get, slice_set, refl, ap, ◌∙◌, sym, subst, add-one, arith}
use Rattle.std.proofs.lemmas.List.{length-map, map-append, take_all}
use Rattle.vx_pool.specs.Counts.{total}

take_suc : {A : Type 0} (i : ℕ) (xs : List A) (x : A) → slice_get xs i ≡ Some x → take (suc i) xs ≡ take i xs ++ x ∷ []
take_suc zero [] x is = cc
take_suc zero (y ∷ xs) x is = cc
take_suc (suc i) [] x is = cc
take_suc (suc i) (y ∷ xs) x is = ap (λ l. y ∷ l) (take_suc i xs x is)

pub take_more : {A : Type 0} (i : ℕ) (xs : List A) (x : A) → slice_get xs i ≡ Some x → take (i + 1) xs ≡ take i xs ++ x ∷ []
take_more i xs x is = ap (λ k. take k xs) (add-one i) ∙ take_suc i xs x is

pub get_map : {A B : Type 0} (f : A → B) (xs : List A) (i : ℕ) (x : A) → slice_get xs i ≡ Some x → slice_get (map f xs) i ≡ Some (f x)
get_map f [] i x is = cc
get_map f (y ∷ xs) zero x is = grind arith
get_map f (y ∷ xs) (suc i) x is = get_map f xs i x is

drop_none : {A : Type 0} (i : ℕ) → drop i (let none : List A = [] in none) ≡ []
drop_none zero = refl
drop_none (suc i) = refl

pub drop_get : {A : Type 0} (i : ℕ) (xs ys : List A) (x : A) → drop i xs ≡ drop i ys → slice_get xs i ≡ Some x → slice_get ys i ≡ Some x
drop_get zero xs ys x same is = ap (λ l. slice_get l 0) (sym same) ∙ is
drop_get (suc i) [] ys x same is = absurd (cc)
drop_get (suc i) (y ∷ xs) [] x same is = drop_get i xs [] x (same ∙ sym (drop_none i)) is
drop_get (suc i) (y ∷ xs) (z ∷ ys) x same is = drop_get i xs ys x same is

drop_one : {A : Type 0} (i : ℕ) (xs : List A) → drop (suc i) xs ≡ drop (suc zero) (drop i xs)
drop_one zero xs = refl
drop_one (suc i) [] = refl
drop_one (suc i) (x ∷ xs) = drop_one i xs

pub drop_on : {A : Type 0} (i : ℕ) (xs ys : List A) → drop i xs ≡ drop i ys → drop (i + 1) xs ≡ drop (i + 1) ys
drop_on i xs ys same = ap (λ k. drop k xs) (add-one i) ∙ (drop_one i xs ∙ (ap (drop (suc zero)) same ∙ (sym (drop_one i ys) ∙ ap (λ k. drop k ys) (sym (add-one i)))))

-- behind a part that is set all stays
drop_suc : {A B : Type 0} (f : A → B) (xs : List A) (i : ℕ) (y : A) → drop (suc i) (map f (slice_set xs i y)) ≡ drop (suc i) (map f xs)
drop_suc f [] i y = refl
drop_suc f (x ∷ xs) zero y = refl
drop_suc f (x ∷ xs) (suc i) y = drop_suc f xs i y

pub drop_set : {A B : Type 0} (f : A → B) (xs : List A) (i : ℕ) (y : A) → drop (i + 1) (map f (slice_set xs i y)) ≡ drop (i + 1) (map f xs)
drop_set f xs i y = ap (λ k. drop k (map f (slice_set xs i y))) (add-one i) ∙ (drop_suc f xs i y ∙ ap (λ k. drop k (map f xs)) (sym (add-one i)))

-- what was taken of the parts so far, and of one more
pub taken_more : {A P R : Type 0} (f : A → R) (g : P → R) (first now : List A) (piles : List P) (i : ℕ) (x : A) (p : P) → slice_get now i ≡ Some x → g p ≡ f x → drop i (map f now) ≡ drop i (map f first)
    → map g piles ≡ take i (map f first) → map g (piles ++ p ∷ []) ≡ take (i + 1) (map f first)
taken_more f g first now piles i x p at is rest taken =
    map-append g piles (p ∷ [])
    ∙ (ap (λ l. l ++ g p ∷ []) taken
    ∙ (ap (λ r. take i (map f first) ++ r ∷ []) is ∙ sym (take_more i (map f first) (f x) (drop_get i (map f now) (map f first) (f x) rest (get_map f now i x at)))))

-- of all parts
pub taken_all : {A P R : Type 0} (f : A → R) (g : P → R) (first : List A) (piles : List P) (i : ℕ) → length first ≤ i → map g piles ≡ take i (map f first) → map g piles ≡ map f first
taken_all f g first piles i all taken = taken ∙ take_all i (map f first) (subst (λ n. n ≤ i) (sym (length-map first f)) all)

-- what is the same of the part that is set
pub map_set : {A B : Type 0} (f : A → B) (xs : List A) (i : ℕ) (x y : A) → slice_get xs i ≡ Some x → f y ≡ f x → map f (slice_set xs i y) ≡ map f xs
map_set f [] i x y is same = refl
map_set f (z ∷ xs) zero x y is same = grind arith
map_set f (z ∷ xs) (suc i) x y is same = ap (λ l. f z ∷ l) (map_set f xs i x y is same)

-- where one of a list is less, their sum is
pub total_less : {A : Type 0} (f : A → ℕ) (xs : List A) (i : ℕ) (x y : A) → slice_get xs i ≡ Some x → f y < f x → total f (slice_set xs i y) < total f xs
total_less f [] i x y is less = grind arith
total_less f (z ∷ xs) zero x y is less = grind arith
total_less f (z ∷ xs) (suc i) x y is less = let e = total_less f xs i x y is less in omega arith

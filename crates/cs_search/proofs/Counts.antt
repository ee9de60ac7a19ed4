-- Filters and counts.
use Rattle.std.proofs.Common.{◌≡◌, ℕ, zero, suc, ◌+◌, ◌<◌, ◌≤◌, ◌⊎◌, inl, inr, Bool, true, false, cond, ◌&&◌, List, [], ◌∷◌, refl, sym, ◌∙◌, subst, ap, ap₂, arith}
use Rattle.std.specs.List.{Contains, filter}
use Rattle.std.proofs.lemmas.Bool.{cases_Bool}
use Rattle.cs_search.specs.Learned.{count_below}
use Rattle.cs_search.proofs.Statuses.{same_atom}
use Rattle.cs_search.proofs.Added.{contains_nothing, contains_here, contains_there, contains_split}

pub both_true : (a b : Bool) → a && b ≡ true → (a ≡ true) × (b ≡ true)
both_true true b e = (refl, e)
both_true false b e = cc

pub second_false : (a b : Bool) → b ≡ false → a && b ≡ false
second_false true b e = e
second_false false b e = refl

filter_yes : {X : Type 0} (p : X → Bool) (x : X) (xs : List X) → p x ≡ true → filter p (x ∷ xs) ≡ x ∷ filter p xs
filter_yes p x xs e = ap (λ b. cond b (x ∷ filter p xs) (filter p xs)) e

filter_no : {X : Type 0} (p : X → Bool) (x : X) (xs : List X) → p x ≡ false → filter p (x ∷ xs) ≡ filter p xs
filter_no p x xs e = ap (λ b. cond b (x ∷ filter p xs) (filter p xs)) e

pub filter_has : {X : Type 0} (p : X → Bool) (xs : List X) (m : X) → Contains xs m → p m ≡ true → Contains (filter p xs) m
filter_has p [] m h t = absurd (contains_nothing m h)
filter_has {X = X} p (x ∷ xs) m h t =
    let P : List X → Type 0 = λ ys. Contains ys m in
    elim (contains_split x xs m h) [
      | inl e ↦ let Q : X → Type 0 = λ y. Contains (x ∷ filter p xs) y in subst P (sym (filter_yes p x xs (ap p e ∙ t))) (subst Q e (contains_here x (filter p xs)))
      | inr r ↦ elim (cases_Bool (p x)) [
        | inl y ↦ subst P (sym (filter_yes p x xs y)) (contains_there x (filter p xs) m (filter_has p xs m r t))
        | inr n ↦ subst P (sym (filter_no p x xs n)) (filter_has p xs m r t)
      ]
    ]

pub filter_only : {X : Type 0} (p : X → Bool) (xs : List X) (m : X) → Contains (filter p xs) m → Contains xs m × (p m ≡ true)
filter_only p [] m h = absurd (contains_nothing m h)
filter_only {X = X} p (x ∷ xs) m h =
    let P : List X → Type 0 = λ ys. Contains ys m in
    elim (cases_Bool (p x)) [
      | inl y ↦ elim (contains_split x (filter p xs) m (subst P (filter_yes p x xs y) h)) [
        | inl e ↦ let Q : X → Type 0 = λ z. Contains (x ∷ xs) z in (subst Q e (contains_here x xs), ap p (sym e) ∙ y)
        | inr r ↦ let w = filter_only p xs m r in (contains_there x xs m w.0, w.1)
      ]
      | inr n ↦ let w = filter_only p xs m (subst P (filter_no p x xs n) h) in (contains_there x xs m w.0, w.1)
    ]

pub count_yes : (f : ℕ → Bool) (k : ℕ) → f k ≡ true → count_below f (suc k) ≡ suc (count_below f k)
count_yes f k e = ap (λ b. cond b (suc (count_below f k)) (count_below f k)) e

pub count_no : (f : ℕ → Bool) (k : ℕ) → f k ≡ false → count_below f (suc k) ≡ count_below f k
count_no f k e = ap (λ b. cond b (suc (count_below f k)) (count_below f k)) e

pub count_same : (f g : ℕ → Bool) (k : ℕ) → ((j : ℕ) → j < k → g j ≡ f j) → count_below g k ≡ count_below f k
count_same f g zero h = refl
count_same f g (suc k) h = ap₂ (λ b n. cond b (suc n) n) (h k (omega arith)) (count_same f g k (λ j lt. h j (omega arith)))

-- one number more passes
pub count_flip : (f g : ℕ → Bool) (p k : ℕ) → p < k → f p ≡ false → g p ≡ true → ((j : ℕ) → ¬ (j ≡ p) → g j ≡ f j) → count_below g k ≡ suc (count_below f k)
count_flip f g p zero lt off on rest = absurd (omega arith)
count_flip f g p (suc k) lt off on rest = elim (same_atom p k) [
  | inl e ↦
      let same = count_same f g k (λ j l. rest j (λ x. let a : j ≡ p = x in let b : p ≡ k = e in omega arith)) in
      count_yes g k (ap g (sym e) ∙ on) ∙ ap (λ n. suc n) (same ∙ sym (count_no f k (ap f (sym e) ∙ off)))
  | inr ne ↦
      let n : ¬ (p ≡ k) = ne in
      let more = count_flip f g p k (omega arith) off on rest in
      let here = rest k (λ x. ne (sym x)) in
      elim (cases_Bool (f k)) [
        | inl y ↦ count_yes g k (here ∙ y) ∙ ap (λ n. suc n) (more ∙ sym (count_yes f k y))
        | inr n ↦ count_no g k (here ∙ n) ∙ (more ∙ ap (λ n. suc n) (sym (count_no f k n)))
      ]
]

pub count_le : (f : ℕ → Bool) (k : ℕ) → count_below f k ≤ k
count_le f zero = omega arith
count_le f (suc k) =
    let h = count_le f k in
    elim (cases_Bool (f k)) [
      | inl y ↦ let e = count_yes f k y in omega (arith, e, h)
      | inr n ↦ let e = count_no f k n in omega (arith, e, h)
    ]

pub count_none : (f : ℕ → Bool) (k : ℕ) → count_below f k ≡ 0 → (j : ℕ) → j < k → f j ≡ false
count_none f zero e j lt = absurd (omega arith)
count_none f (suc k) e j lt = elim (cases_Bool (f k)) [
  | inl y ↦ absurd (let x : 0 ≡ suc (count_below f k) = sym e ∙ count_yes f k y in omega arith)
  | inr n ↦ elim (same_atom j k) [
    | inl s ↦ ap f s ∙ n
    | inr ns ↦ count_none f k (sym (count_no f k n) ∙ e) j (let x : ¬ (j ≡ k) = ns in omega arith)
  ]
]

pub count_some : (f : ℕ → Bool) (k : ℕ) → 0 < count_below f k → (j : ℕ) × (j < k) × (f j ≡ true)
count_some f zero lt = absurd (omega arith)
count_some f (suc k) lt = elim (cases_Bool (f k)) [
  | inl y ↦ (k, omega arith, y)
  | inr n ↦
      let e = count_no f k n in
      let w = count_some f k (omega (arith, e)) in
      (w.0, (let a : w.0 < k = w.1 in omega arith), w.2)
]

step : (k : ℕ) → k + 1 ≡ suc k
step k = omega arith

pub count_one : (f : ℕ → Bool) (k : ℕ) → f k ≡ true → count_below f (k + 1) ≡ suc (count_below f k)
count_one f k e = ap (count_below f) (step k) ∙ count_yes f k e

pub count_pass : (f : ℕ → Bool) (k : ℕ) → f k ≡ false → count_below f (k + 1) ≡ count_below f k
count_pass f k e = ap (count_below f) (step k) ∙ count_no f k e

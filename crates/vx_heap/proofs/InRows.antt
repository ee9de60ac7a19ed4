-- Rows of numbers, by number.
use Rattle.std.proofs.Common.{◌≡◌, ◌<◌, ℕ, zero, suc, Bool, true, false, List, [], ◌∷◌, ◌++◌, Vec, Global, length, get_or, refl, sym, ap, ◌∙◌, arith}
use Rattle.std.specs.Prelude.{nat_eq, nat_lt, if◌then◌else◌, slice_get, slice_set, Option, Some, None}
use Rattle.std.proofs.lemmas.Option.{slice_get-get_or}
use Rattle.std.proofs.lemmas.Bool.{eqb-true, lt-ltb, le-ltb, ltb-true, ltb-false}
use Rattle.vx_heap.specs.Places.{closed_up}
use Rattle.vx_heap.proofs.Tests.{unequal, different, both_more}

abbrev pub items_at : List (Vec ℕ Global) → ℕ → List ℕ
items_at rs k = elim (slice_get rs k) [ Some v ↦ v.items | None ↦ [] ]

-- an empty row behind the others
pub empty_behind : (rs : List (Vec ℕ Global)) (v : Vec ℕ Global) → v.items ≡ [] → (k : ℕ) → items_at (rs ++ v ∷ []) k ≡ items_at rs k
empty_behind [] v e zero = e
empty_behind [] v e (suc k) = refl
empty_behind (r ∷ rs) v e zero = refl
empty_behind (r ∷ rs) v e (suc k) = empty_behind rs v e k

-- the rows from number 0 to i are closed up, the others aren't yet
abbrev pub closed_to : Bool → ℕ → List ℕ → List ℕ
closed_to true at ns = closed_up at ns
closed_to false at ns = ns

set_row : (rs : List (Vec ℕ Global)) (i : ℕ) (w : Vec ℕ Global) → i < length rs → (k : ℕ) → items_at (slice_set rs i w) k ≡ (if nat_eq k i then w.items else items_at rs k)
set_row [] i w lt k = absurd (omega arith)
set_row (r ∷ rs) zero w lt zero = refl
set_row (r ∷ rs) zero w lt (suc k) = ap (λ b. if b then w.items else items_at rs k) (sym (unequal (suc k) 0 (λ e. omega arith)))
set_row (r ∷ rs) (suc i) w lt zero = ap (λ b. if b then w.items else r.items) (sym (unequal 0 (suc i) (λ e. omega arith)))
set_row (r ∷ rs) (suc i) w lt (suc k) = set_row rs i w (omega arith) k ∙ ap (λ b. if b then w.items else items_at rs k) (sym (both_more k i))

as_before : (k i : ℕ) → nat_eq k i ≡ false → nat_lt k i ≡ nat_lt k (suc i)
as_before k i e = go (nat_lt k i) refl
  where
    go : (b : Bool) → nat_lt k i ≡ b → b ≡ nat_lt k (suc i)
    go true f = let lt = ltb-true k i f in sym (lt-ltb k (suc i) (omega arith))
    go false f = let le = ltb-false k i f in let other = different k i e in sym (le-ltb k (suc i) (omega arith))

-- one row more is closed up
pub one_closed : (rs : List (Vec ℕ Global)) (i at : ℕ) (v w : Vec ℕ Global) (old : ℕ → List ℕ) → i < length rs → v ≡ get_or rs i v → w.items ≡ closed_up at v.items →
    ((k : ℕ) → items_at rs k ≡ closed_to (nat_lt k i) at (old k)) → (k : ℕ) → items_at (slice_set rs i w) k ≡ closed_to (nat_lt k (suc i)) at (old k)
one_closed rs i at v w old lt is closed each k = set_row rs i w lt k ∙ go (nat_eq k i) refl
  where
    there : items_at rs i ≡ v.items
    there = ap (λ (o : Option (Vec ℕ Global)). elim o as (λ b. List ℕ) [ Some x ↦ x.items | None ↦ [] ]) (slice_get-get_or rs i v lt) ∙ ap (λ (x : Vec ℕ Global). x.items) (sym is)

    go : (b : Bool) → nat_eq k i ≡ b → (if b then w.items else items_at rs k) ≡ closed_to (nat_lt k (suc i)) at (old k)
    go true e =
        let same = eqb-true k i e in
        closed
        ∙ ap (closed_up at) (sym there ∙ each i ∙ ap (λ b. closed_to b at (old i)) (le-ltb i i (omega arith)))
        ∙ ap (λ n. closed_up at (old n)) (sym same)
        ∙ ap (λ b. closed_to b at (old k)) (sym (ap (λ n. nat_lt n (suc i)) same ∙ lt-ltb i (suc i) (omega arith)))
    go false e = each k ∙ ap (λ b. closed_to b at (old k)) (as_before k i e)

-- all rows are closed up
pub all_closed : (rs : List (Vec ℕ Global)) (i at : ℕ) (old : List (Vec ℕ Global)) → length rs ≡ length old → length rs ≡ i →
    ((k : ℕ) → items_at rs k ≡ closed_to (nat_lt k i) at (items_at old k)) → (k : ℕ) → items_at rs k ≡ closed_up at (items_at old k)
all_closed rs i at old same end each k = each k ∙ go (nat_lt k i) refl
  where
    past : (xs : List (Vec ℕ Global)) (n m : ℕ) → length xs ≡ n → nat_lt m n ≡ false → items_at xs m ≡ []
    past [] n m e f = refl
    past (x ∷ xs) n zero e f = let le = ltb-false 0 n f in absurd (omega arith)
    past (x ∷ xs) n (suc m) e f = let le = ltb-false (suc m) n f in past xs (length xs) m refl (le-ltb m (length xs) (omega arith))

    go : (b : Bool) → nat_lt k i ≡ b → closed_to b at (items_at old k) ≡ closed_up at (items_at old k)
    go true e = refl
    go false e = let none = past old i k (sym same ∙ end) e in none ∙ ap (closed_up at) (sym none)

pub read_again : (xs : List ℕ) (i d : ℕ) → get_or xs i d ≡ get_or xs i (get_or xs i d)
read_again [] i d = refl
read_again (x ∷ xs) zero d = refl
read_again (x ∷ xs) (suc i) d = read_again xs i d

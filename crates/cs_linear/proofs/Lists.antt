-- Lists by place: one item more, one item written.
use Rattle.std.proofs.Common.{rules, Vec, Global, vec_len, length-append, ◌≡◌, ℕ, zero, suc, ◌+◌, ◌<◌, List, [], ◌∷◌, ◌++◌, Some, None, length, slice_get, slice_set, get_or, refl, sym, ◌∙◌, ap, subst, arith, ◌≤◌}
use Rattle.std.proofs.lemmas.Option.{slice_get-get_or, slice_get_read, slice_get_past, same_Some}
use Rattle.std.proofs.lemmas.List.{get_or-set_same, length-set}

pub none_some : {A : Type 0} {X : Type 0} (x : A) → None ≡ Some x → X
none_some x e = absurd cc

-- what holds of each item by its place holds with one item more
pub each_more : {A : Type 0} (P : ℕ → A → Type 0) (xs : List A) (x : A) → ((k : ℕ) (n : A) → slice_get xs k ≡ Some n → P k n) → P (length xs) x → (k : ℕ) (n : A) → slice_get (xs ++ x ∷ []) k ≡ Some n → P k n
each_more P [] x h p zero n e = subst (P 0) (same_Some x n e) p
each_more P [] x h p (suc k) n e = none_some n e
each_more P (y ∷ ys) x h p zero n e = h 0 n e
each_more P (y ∷ ys) x h p (suc k) n e = each_more (λ k n. P (suc k) n) ys x (λ k n e. h (suc k) n e) p k n e

pub read_as : {A : Type 0} (xs : List A) (i : ℕ) (x : A) → i < length xs → x ≡ get_or xs i x → slice_get xs i ≡ Some x
read_as xs i x lt is = slice_get_read xs (length xs) i x refl lt is

pub set_here : {A : Type 0} (xs : List A) (i : ℕ) (x : A) → i < length xs → slice_get (slice_set xs i x) i ≡ Some x
set_here xs i x lt =
    slice_get-get_or (slice_set xs i x) i x (subst (λ n. i < n) (sym (length-set xs i x)) lt) ∙ ap Some (get_or-set_same xs i x x lt)

pub set_others : {A : Type 0} (xs : List A) (i k : ℕ) (x : A) → ¬ (k ≡ i) → slice_get (slice_set xs i x) k ≡ slice_get xs k
set_others [] i k x ne = refl
set_others (y ∷ ys) zero zero x ne = absurd (ne refl)
set_others (y ∷ ys) zero (suc k) x ne = refl
set_others (y ∷ ys) (suc i) zero x ne = refl
set_others (y ∷ ys) (suc i) (suc k) x ne = set_others ys i k x (λ e. ne (ap suc e))

pub rehomed : {A : Type 0} (xs : List A) (b j : ℕ) (x y : A) → b < length xs → j < length xs →
    (length (slice_set (slice_set xs b x) j y) ≡ length xs) × (¬ (b ≡ j) → slice_get (slice_set (slice_set xs b x) j y) b ≡ Some x) × (slice_get (slice_set (slice_set xs b x) j y) j ≡ Some y) × ((k : ℕ) → ¬ (k ≡ b) → ¬ (k ≡ j) → slice_get (slice_set (slice_set xs b x) j y) k ≡ slice_get xs k)
rehomed xs b j x y lb lj = (
  length-set (slice_set xs b x) j y ∙ length-set xs b x,
  λ ne. set_others (slice_set xs b x) j b y ne ∙ set_here xs b x lb,
  set_here (slice_set xs b x) j y (subst (λ n. j < n) (sym (length-set xs b x)) lj),
  λ k nb nj. set_others (slice_set xs b x) j k y nj ∙ set_others xs b k x nb,
)

pub one_longer : {A : Type 0} {B : Type 0} (xs : List A) (x : A) (ys : List B) (y : B) → length xs ≡ length ys → length (xs ++ x ∷ []) ≡ length (ys ++ y ∷ [])
one_longer xs x ys y e = length-append xs (x ∷ []) ∙ ap (λ n. n + 1) e ∙ sym (length-append ys (y ∷ []))

pub few_more : {A : Type 0} (xs : List A) (x : A) (n : ℕ) → length xs + 1 < n → length (xs ++ x ∷ []) < n
few_more xs x n lt = subst (λ k. k < n) (sym (length-append xs (x ∷ []))) lt

pub below_longer : {A : Type 0} (xs : List A) (x : A) (k : ℕ) → k < length xs → k < length (xs ++ x ∷ [])
below_longer xs x k lt = subst (λ n. k < n) (sym (length-append xs (x ∷ []))) (omega arith)

pub long : {A : Type 0} (v : Vec A Global) → vec_len v ≡ length v.items
long v = search rules

pub past_none : {A : Type 0} {X : Type 0} (xs : List A) (i : ℕ) (x : A) → length xs ≤ i → slice_get xs i ≡ Some x → X
past_none xs i x le e = none_some x (sym (slice_get_past xs i le) ∙ e)

pub here_is : {A : Type 0} (xs : List A) (i : ℕ) (d x : A) → i < length xs → slice_get xs i ≡ Some x → get_or xs i d ≡ x
here_is xs i d x lt e = same_Some (get_or xs i d) x (sym (slice_get-get_or xs i d lt) ∙ e)

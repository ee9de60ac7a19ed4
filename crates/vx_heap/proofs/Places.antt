-- The places at which a number stands in a list.
use Rattle.std.proofs.Common.{◌≡◌, ◌<◌, ◌≤◌, ◌+◌, ◌-◌, ℕ, zero, suc, Bool, true, false, List, [], ◌∷◌, ◌++◌, map, take, drop, length, refl, sym, ap, ◌∙◌, subst, arith}
use Rattle.std.specs.Prelude.{not, nat_eq, if◌then◌else◌, filter}
use Rattle.std.proofs.lemmas.Bool.{lt-ltb, le-ltb}
use Rattle.vx_heap.proofs.Tests.{itself, unequal}
use Rattle.vx_heap.specs.Places.{places, moved, closed_up, with_number}

-- a further item at the end
pub places_more : (k n : ℕ) (ms : List ℕ) (m : ℕ) → places k n (ms ++ m ∷ []) ≡ with_number (nat_eq m k) (places k n ms) (n + length ms)
places_more k n [] m = go (nat_eq m k)
  where
    go : (b : Bool) → (if b then n ∷ [] else []) ≡ with_number b [] (n + 0)
    go true = ap (λ a. a ∷ []) (omega arith)
    go false = refl
places_more k n (l ∷ ms) m = go (nat_eq l k) (nat_eq m k) (places_more k (suc n) ms m)
  where
    on : (b : Bool) (ns : List ℕ) (p : ℕ) → n ∷ with_number b ns p ≡ with_number b (n ∷ ns) p
    on true ns p = refl
    on false ns p = refl

    go : (a b : Bool) → places k (suc n) (ms ++ m ∷ []) ≡ with_number b (places k (suc n) ms) (suc n + length ms) →
        (if a then n ∷ places k (suc n) (ms ++ m ∷ []) else places k (suc n) (ms ++ m ∷ [])) ≡ with_number b (if a then n ∷ places k (suc n) ms else places k (suc n) ms) (n + suc (length ms))
    go true b e = ap (λ l. n ∷ l) (e ∙ ap (with_number b (places k (suc n) ms)) (omega arith)) ∙ on b (places k (suc n) ms) (n + suc (length ms))
    go false b e = e ∙ ap (with_number b (places k (suc n) ms)) (omega arith)

-- a place that stays, and those that follow
closed_below : (n m : ℕ) (ns : List ℕ) → m < n → closed_up n (m ∷ ns) ≡ m ∷ closed_up n ns
closed_below n m ns lt =
    ap (λ b. map (moved n) (if not b then m ∷ filter (λ x. not (nat_eq x n)) ns else filter (λ x. not (nat_eq x n)) ns)) (unequal m n (λ e. omega arith))
    ∙ ap (λ b. (if b then m - 1 else m) ∷ closed_up n ns) (le-ltb n m (omega arith))

-- a place behind the one that is gone
closed_above : (n m : ℕ) (ns : List ℕ) → n ≤ m → closed_up n (suc m ∷ ns) ≡ m ∷ closed_up n ns
closed_above n m ns le =
    ap (λ b. map (moved n) (if not b then suc m ∷ filter (λ x. not (nat_eq x n)) ns else filter (λ x. not (nat_eq x n)) ns)) (unequal (suc m) n (λ e. omega arith))
    ∙ ap (λ b. (if b then suc m - 1 else suc m) ∷ closed_up n ns) (lt-ltb n (suc m) (omega arith))
    ∙ ap (λ a. a ∷ closed_up n ns) (omega arith)

-- the place that is gone
closed_at : (n : ℕ) (ns : List ℕ) → closed_up n (n ∷ ns) ≡ closed_up n ns
closed_at n ns = ap (λ b. map (moved n) (if not b then n ∷ filter (λ x. not (nat_eq x n)) ns else filter (λ x. not (nat_eq x n)) ns)) (itself n)

-- all that stand behind the item that is gone
places_above : (k n p : ℕ) (ms : List ℕ) → n ≤ p → closed_up n (places k (suc p) ms) ≡ places k p ms
places_above k n p [] le = refl
places_above k n p (m ∷ ms) le = go (nat_eq m k) (places_above k n (suc p) ms (omega arith))
  where
    go : (b : Bool) → closed_up n (places k (suc (suc p)) ms) ≡ places k (suc p) ms →
        closed_up n (if b then suc p ∷ places k (suc (suc p)) ms else places k (suc (suc p)) ms) ≡ (if b then p ∷ places k (suc p) ms else places k (suc p) ms)
    go true e = closed_above n p (places k (suc (suc p)) ms) le ∙ ap (λ l. p ∷ l) e
    go false e = e

-- an item is gone
pub places_without : (k n i : ℕ) (ms : List ℕ) → places k n (take i ms ++ drop (suc i) ms) ≡ closed_up (n + i) (places k n ms)
places_without k n zero [] = refl
places_without k n (suc i) [] = refl
places_without k n zero (m ∷ ms) = subst (λ a. places k n ms ≡ closed_up a (if nat_eq m k then n ∷ places k (suc n) ms else places k (suc n) ms)) (omega arith) (go (nat_eq m k))
  where
    go : (b : Bool) → places k n ms ≡ closed_up n (if b then n ∷ places k (suc n) ms else places k (suc n) ms)
    go true = sym (closed_at n (places k (suc n) ms) ∙ places_above k n n ms (omega arith))
    go false = sym (places_above k n n ms (omega arith))
places_without k n (suc i) (m ∷ ms) = go (nat_eq m k) (places_without k (suc n) i ms ∙ ap (λ a. closed_up a (places k (suc n) ms)) (omega arith))
  where
    go : (b : Bool) → places k (suc n) (take i ms ++ drop (suc i) ms) ≡ closed_up (n + suc i) (places k (suc n) ms) →
        (if b then n ∷ places k (suc n) (take i ms ++ drop (suc i) ms) else places k (suc n) (take i ms ++ drop (suc i) ms)) ≡ closed_up (n + suc i) (if b then n ∷ places k (suc n) ms else places k (suc n) ms)
    go true e = ap (λ l. n ∷ l) e ∙ sym (closed_below (n + suc i) n (places k (suc n) ms) (omega arith))
    go false e = e

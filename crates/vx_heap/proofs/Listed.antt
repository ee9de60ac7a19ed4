-- Rows beside the chunks that they list.
use Rattle.std.proofs.Common.{◌≡◌, ◌+◌, ℕ, suc, List, [], ◌∷◌, ◌++◌, map, take, drop, length, get_or, Global, sym, ap, ap₂, ◌∙◌, arith}
use Rattle.std.specs.Prelude.{nat_eq, slice_set}
use Rattle.std.proofs.lemmas.List.{map-append, take-map, drop-map, length-map}
use Rattle.std.proofs.Math.Seq.{map-set_same}
use Rattle.std.specs.declared.rc.Rc.{Rc}
use Rattle.vx_heap.specs.declared.chunk.Chunk.{Chunk}
use Rattle.vx_heap.specs.declared.rows.Rows.{Rows}
use Rattle.vx_heap.specs.Places.{places, row, under, with_number, closed_up}
use Rattle.vx_heap.specs.Views.{shared}
use Rattle.vx_heap.proofs.Places.{places_more, places_without}

from_zero : (n : ℕ) → n ≡ 0 + n
from_zero n = omega arith

-- a further chunk at the end, and its number in its row
pub listed_more : (xs : List (Rc Chunk Global)) (c : Rc Chunk Global) (r s : Rows) → ((k : ℕ) → under r k ≡ places k 0 (map row xs)) →
    ((k : ℕ) → under s k ≡ with_number (nat_eq (row c) k) (under r k) (length xs)) → (k : ℕ) → under s k ≡ places k 0 (map row (xs ++ c ∷ []))
listed_more xs c r s is more k =
    more k
    ∙ ap₂ (λ l n. with_number (nat_eq (row c) k) l n) (is k) (sym (length-map xs row))
    ∙ ap (with_number (nat_eq (row c) k) (places k 0 (map row xs))) (from_zero (length (map row xs)))
    ∙ sym (ap (places k 0) (map-append row xs (c ∷ [])) ∙ places_more k 0 (map row xs) (row c))

-- rows in which the same numbers stand
pub listed_same : (xs : List (Rc Chunk Global)) (r s : Rows) → ((k : ℕ) → under r k ≡ places k 0 (map row xs)) → ((k : ℕ) → under s k ≡ under r k) → (k : ℕ) → under s k ≡ places k 0 (map row xs)
listed_same xs r s is same k = same k ∙ is k

pub heap_more : (xs : List (Rc Chunk Global)) (c : Rc Chunk Global) → map shared (xs ++ c ∷ []) ≡ map shared xs ++ shared c ∷ []
heap_more xs c = map-append shared xs (c ∷ [])

-- a chunk is gone
pub listed_without : (xs : List (Rc Chunk Global)) (n : ℕ) (r s : Rows) → ((k : ℕ) → under r k ≡ places k 0 (map row xs)) →
    ((k : ℕ) → under s k ≡ closed_up n (under r k)) → (k : ℕ) → under s k ≡ places k 0 (map row (take n xs ++ drop (suc n) xs))
listed_without xs n r s is closed k =
    closed k
    ∙ ap (closed_up n) (is k)
    ∙ ap (λ m. closed_up m (places k 0 (map row xs))) (from_zero n)
    ∙ sym (
    ap (places k 0) (map-append row (take n xs) (drop (suc n) xs) ∙ ap₂ (λ a b. a ++ b) (sym (take-map row n xs)) (sym (drop-map row (suc n) xs)))
    ∙ places_without k 0 n (map row xs)
    )

-- another chunk of the same row
pub listed_set : (xs : List (Rc Chunk Global)) (n : ℕ) (c d : Rc Chunk Global) (r : Rows) → ((k : ℕ) → under r k ≡ places k 0 (map row xs)) →
    row c ≡ row (get_or xs n d) → (k : ℕ) → under r k ≡ places k 0 (map row (slice_set xs n c))
listed_set xs n c d r is e k = is k ∙ ap (places k 0) (sym (map-set_same row xs n c d e))

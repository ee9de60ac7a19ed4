-- What is known of the terms that don't wait.
use Rattle.std.specs.Prelude.{◌≡◌, ℕ, Bool, true, false, not, ◌&&◌, List, [], ◌++◌, length}
use Rattle.std.specs.List.{list_any}
use Rattle.cs_index.specs.declared.index.Index.{Index}
use Rattle.cs_index.specs.Under.{under}
use Rattle.cs_cong.specs.declared.congruent.Applied.{Applied}
use Rattle.cs_cong.specs.declared.queue.Queue.{Queue}
use Rattle.cs_cong.specs.declared.waiting.Waiting.{Waiting}
use Rattle.cs_cong.specs.Rows.{row}
use Rattle.cs_cong.specs.Joined.{are_congruent}
use Rattle.cs_cong.specs.Signatures.{key_at}
use Rattle.cs_cong.specs.Used.{IsUsed}
use Rattle.cs_cong.specs.Waits.{waits, IsAdded}

-- n doesn't wait, and is congruent to a
abbrev pub is_partner : List Applied → (ℕ → ℕ) → Queue → ℕ → ℕ → Bool
is_partner terms f q n a = not (waits q n) && are_congruent terms f n a

-- the index has one such under the key of a
abbrev pub has_partner : List Applied → (ℕ → ℕ) → Queue → Index → ℕ → Bool
has_partner terms f q i a = list_any (λ n. is_partner terms f q n a) (under i (key_at terms f a))

-- of the terms that don't wait congruent ones are in one class, and the index has one of each signature
pub record IsSettled (terms : List Applied) (f : ℕ → ℕ) (w : Waiting) : Type 0 where
  pub wide : length w.queue.flags.items ≡ length terms
  pub count : length w.uses.items ≡ length terms
  pub used : IsUsed terms f w.uses.items
  pub closed : (a b : ℕ) → waits w.queue a ≡ false → waits w.queue b ≡ false → are_congruent terms f a b ≡ true → f a ≡ f b
  pub entered : (a : ℕ) → waits w.queue a ≡ false → has_partner terms f w.queue w.index a ≡ true

-- a class has the representative `to` in place of `from`, and the terms with a part in it wait
pub record IsSpread (old new : Waiting) (from to : ℕ) : Type 0 where
  pub added : IsAdded old.queue new.queue (row old.uses.items from)
  pub index : new.index ≡ old.index
  pub emptied : row new.uses.items from ≡ []
  pub joined : row new.uses.items to ≡ row old.uses.items to ++ row old.uses.items from
  pub others : (r : ℕ) → ¬ (r ≡ from) → ¬ (r ≡ to) → row new.uses.items r ≡ row old.uses.items r
  pub count : length new.uses.items ≡ length old.uses.items

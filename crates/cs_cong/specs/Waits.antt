-- Terms that wait to be looked at.
use Rattle.std.specs.Prelude.{◌≡◌, ℕ, suc, Bool, true, false, ◌||◌, List, [], ◌∷◌, ◌++◌, length, get_or}
use Rattle.cs_cong.specs.declared.queue.Queue.{Queue}
use Rattle.cs_cong.specs.Signatures.{has}

abbrev pub waits : Queue → ℕ → Bool
waits q a = get_or q.flags.items a true

pub record IsLast (xs : List ℕ) (a : ℕ) : Type 0 where
  pub before : List ℕ
  pub is : xs ≡ before ++ a ∷ []

-- these wait too
pub record IsAdded (old new : Queue) (more : List ℕ) : Type 0 where
  pub wide : length new.flags.items ≡ length old.flags.items
  pub waiting : (b : ℕ) → waits new b ≡ (waits old b || has more b)

-- this one waits no longer
pub record IsDone (old new : Queue) (a : ℕ) : Type 0 where
  pub wide : length new.flags.items ≡ length old.flags.items
  pub shorter : suc (length new.list.items) ≡ length old.list.items
  pub here : waits new a ≡ false
  pub others : (b : ℕ) → ¬ (b ≡ a) → waits new b ≡ waits old b

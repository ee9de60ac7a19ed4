-- Merges that are marked.
use Rattle.std.specs.Prelude.{◌≡◌, ℕ, ◌≤◌, Bool, true}
use Rattle.std.specs.BTreeSet.{BTreeSet, contains}
use Rattle.std.specs.Ordering.{nat_cmp}

abbrev pub is_marked : BTreeSet ℕ → ℕ → Bool
is_marked marks k = contains nat_cmp marks k

-- more merges are marked, all of them before this time
pub record Marked (time : ℕ) (old new : BTreeSet ℕ) : Type 0 where
  pub kept : (k : ℕ) → is_marked old k ≡ true → is_marked new k ≡ true
  pub later : (k : ℕ) → time ≤ k → is_marked new k ≡ is_marked old k

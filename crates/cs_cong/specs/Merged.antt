-- The representatives of terms, by the merges in order.
use Rattle.std.specs.Prelude.{◌≡◌, ◌⊎◌, ℕ, zero, suc, ◌<◌, ◌≤◌, nat_eq, cond, List, [], ◌∷◌, ◌++◌, length, get_or, take}
use Rattle.cs_cong.specs.declared.merges.Merge.{Merge}
use Rattle.cs_cong.specs.declared.merges.Reason.{Reason}
use Rattle.cs_cong.specs.declared.merges.Reason.TheVariants.{Congruence}

-- a merge of a term with itself
abbrev pub nothing : Merge
nothing = record { left = 0; right = 0; reason = Congruence; moved = 0 }

abbrev pub merge_at : List Merge → ℕ → Merge
merge_at log k = get_or log k nothing

-- the class of the left term goes to the representative of the right one
abbrev pub across : Merge → (ℕ → ℕ) → ℕ → ℕ
across m f a = cond (nat_eq (f a) (f m.left)) (f m.right) (f a)

-- before the merge of this number
abbrev pub representative : List Merge → ℕ → ℕ → ℕ
representative log zero a = a
representative log (suc k) a = across (get_or log k nothing) (representative log k) a

-- after all merges
abbrev pub current : List Merge → ℕ → ℕ
current log a = representative log (length log) a

abbrev pub with_merge : List Merge → ℕ → ℕ → Reason → List Merge
with_merge log a b why =
    cond (nat_eq (current log a) (current log b)) log (log ++ record { left = a; right = b; reason = why; moved = current log a } ∷ [])

-- one of the two classes goes to the representative of the other
abbrev pub IsMerged : List Merge → ℕ → ℕ → Reason → List Merge → Type 0
IsMerged old a b why new = (new ≡ with_merge old a b why) ⊎ (new ≡ with_merge old b a why)

-- further merges
pub record IsLonger (old new : List Merge) : Type 0 where
  pub front : take (length old) new ≡ old
  pub longer : length old ≤ length new

-- the merges are of terms below n
pub record IsWithin (n : ℕ) (m : Merge) : Type 0 where
  pub left : m.left < n
  pub right : m.right < n
  pub moved : m.moved < n

abbrev pub AreWithin : ℕ → List Merge → Type 0
AreWithin n log = (k : ℕ) → k < length log → IsWithin n (get_or log k nothing)

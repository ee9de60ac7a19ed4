-- Walks along merges.
use Rattle.std.specs.Prelude.{◌≡◌, ℕ, zero, suc, ◌<◌, Bool, true, false, nat_eq, cond, List, [], ◌∷◌, ◌++◌, get_or}
use Rattle.cs_cong.specs.declared.merges.Merge.{Merge}
use Rattle.cs_cong.specs.declared.paths.Edge.{Edge}
use Rattle.cs_cong.specs.Merged.{nothing, representative}

-- the two are in one class from the merge t on
pub record IsParting (log : List Merge) (time a b t : ℕ) : Type 0 where
  pub before : t < time
  pub apart : representative log t a ≡ representative log t b → ⊥
  pub together : representative log (suc t) a ≡ representative log (suc t) b

-- along the last merge that joined the two: from a to one of its terms, along it, and on to b
abbrev pub along : (ℕ → ℕ) → Merge → ℕ → (ℕ → ℕ → List Edge) → ℕ → ℕ → List Edge
along f m k before a b =
    cond (nat_eq (f a) (f b)) (before a b)
    (cond (nat_eq (f a) (f m.left)) (before a m.left ++ record { merge = k; forward = true } ∷ before m.right b) (before a m.right ++ record { merge = k; forward = false } ∷ before m.left b))

-- the walk from a to b along merges before this time
abbrev pub walk : List Merge → ℕ → ℕ → ℕ → List Edge
walk log zero a b = []
walk log (suc k) a b = along (representative log k) (get_or log k nothing) k (walk log k) a b

abbrev pub start_of : Bool → Merge → ℕ
start_of true m = m.left
start_of false m = m.right

abbrev pub end_of : Bool → Merge → ℕ
end_of true m = m.right
end_of false m = m.left

-- the edges lead from a to b, along merges before this time
pub data Leads (log : List Merge) (time : ℕ) : ℕ → List Edge → ℕ → Type 0 where
  arrived : (a : ℕ) → Leads log time a [] a
  goes : {b : ℕ} {es : List Edge} (e : Edge) → e.merge < time → Leads log time (end_of e.forward (get_or log e.merge nothing)) es b → Leads log time (start_of e.forward (get_or log e.merge nothing)) (e ∷ es) b

-- Rows of numbers, one of which is written.
use Rattle.std.proofs.Common.{◌≡◌, ℕ, zero, suc, [], ◌∷◌, ◌++◌, refl, Vec}
use Rattle.std.specs.declared.alloc.Global.{Global}
use Rattle.cs_cong.specs.Rows.{Rows, row}

pub row_pushed : (rows : Rows) (v : Vec ℕ Global) → v.items ≡ [] → ((s : ℕ) → row rows s ≡ []) → (s : ℕ) → row (rows ++ v ∷ []) s ≡ []
row_pushed [] v e none zero = e
row_pushed [] v e none (suc s) = refl
row_pushed (w ∷ rows) v e none zero = none zero
row_pushed (w ∷ rows) v e none (suc s) = row_pushed rows v e (λ t. none (suc t)) s

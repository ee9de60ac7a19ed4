-- Paths whose terms have numbers, those of their segments. Neighbours with one number stand on one level of the assertion stack (SMT-LIB 2.6, section 4.1), so one `pop` takes back what was
-- declared and asserted for them.
use Rattle.std.specs.Prelude.{ℕ, List, map}
use Rattle.vx_terms.specs.Terms.{Term}

-- a term of a path, with the number of its segment
pub record Entry : Type 0 where
  pub segment : ℕ
  pub term : Term

-- the path without the numbers
abbrev pub terms : List Entry → List Term
terms entries = map (λ e. e.term) entries

-- The symbols s, which every dialogue declares first.
use Rattle.std.specs.Prelude.{ℕ, List, [], ◌∷◌, ◌++◌}
use Rattle.vx_terms.specs.Sorts.{Sort, IntSort, BoolSort, RealSort, RefSort, SnapSort, Standard}
use Rattle.vx_smt_meaning.specs.Commands.{Declared}

-- s and this number
abbrev pub standard : ℕ → List Sort → Sort → Declared
standard n takes gives = record { symbol = Standard n; takes = takes; gives = gives }

-- null and unit, and what makes pairs and takes them apart
abbrev pub pairs : List Declared
pairs = standard 0 [] RefSort ∷ standard 1 [] SnapSort ∷ standard 2 (SnapSort ∷ SnapSort ∷ []) SnapSort
    ∷ standard 3 (SnapSort ∷ []) SnapSort ∷ standard 4 (SnapSort ∷ []) SnapSort ∷ []

-- values as snapshots
abbrev pub wraps : List Declared
wraps = standard 5 (IntSort ∷ []) SnapSort ∷ standard 6 (BoolSort ∷ []) SnapSort ∷ standard 7 (RealSort ∷ []) SnapSort ∷ standard 8 (RefSort ∷ []) SnapSort ∷ []

-- and back
abbrev pub unwraps : List Declared
unwraps = standard 9 (SnapSort ∷ []) IntSort ∷ standard 10 (SnapSort ∷ []) BoolSort ∷ standard 11 (SnapSort ∷ []) RealSort ∷ standard 12 (SnapSort ∷ []) RefSort ∷ []

-- each of them, with its sorts
abbrev pub standard_symbols : List Declared
standard_symbols = pairs ++ wraps ++ unwraps

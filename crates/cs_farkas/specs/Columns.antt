-- How many sums aren't 0.
use Rattle.std.specs.Prelude.{ℕ, ◌+◌, pos, List, [], ◌∷◌, cond}
use Rattle.std.specs.Ordering.{int_eq}
use Rattle.vx_frac.specs.declared.Frac.{Frac}

abbrev pub other_than_zero : Frac → ℕ
other_than_zero f = cond (int_eq f.num (pos 0)) 0 1

abbrev pub others_in : List Frac → ℕ
others_in [] = 0
others_in (f ∷ fs) = other_than_zero f + others_in fs

-- A fraction and the whole numbers next to it.
use Rattle.std.specs.Prelude.{◌≡◌, true, ℤ, pos, ◌+ℤ◌}
use Rattle.vx_frac.specs.Fractions.{Fraction, whole, at_most, is_below}

-- the whole number is at most the fraction, and the next one is above it
pub record IsFloor (floor : ℤ) (value : Fraction) : Type 0 where
  pub within : at_most (whole floor) value ≡ true
  pub below : is_below value (whole (floor +ℤ pos 1)) ≡ true

-- the fraction is above the whole number, and below the next one
pub record LiesBetween (floor : ℤ) (value : Fraction) : Type 0 where
  pub above : is_below (whole floor) value ≡ true
  pub below : is_below value (whole (floor +ℤ pos 1)) ≡ true

-- Numbers with a multiple of a small positive one, their order, and what a limit says of a value.
use Rattle.std.specs.Prelude.{Bool, true, false, if◌then◌else◌}
use Rattle.vx_frac.specs.Fractions.{Fraction, none, full, minus, is_below}
use Rattle.vx_frac.specs.Fraction.{fraction}
use Rattle.cs_linear.specs.declared.bounds.Value.{Value}
use Rattle.cs_linear.specs.declared.bounds.Side.{Side}
use Rattle.cs_linear.specs.declared.bounds.Side.TheVariants.{AtLeast, AtMost}

-- a number and a multiple of a small positive one
pub record Amount : Type 0 where
  pub main : Fraction
  pub delta : Fraction

abbrev pub pair : Fraction → Fraction → Amount
pair m d = record { main = m; delta = d }

abbrev pub exactly : Fraction → Amount
exactly a = pair a none

abbrev pub above : Fraction → Amount
above a = pair a full

abbrev pub below : Fraction → Amount
below a = pair a (minus full)

abbrev pub amount : Value → Amount
amount v = pair (fraction v.main) (fraction v.delta)

-- the number is below; or it isn't above, and the multiple is below
abbrev pub is_less : Amount → Amount → Bool
is_less x y = if is_below x.main y.main then true else if is_below y.main x.main then false else is_below x.delta y.delta

-- the value is beyond the limit
abbrev pub is_broken_by : Side → Amount → Amount → Bool
is_broken_by AtLeast limit value = is_less value limit
is_broken_by AtMost limit value = is_less limit value

-- the value can go on toward the limit
abbrev pub has_room_by : Side → Amount → Amount → Bool
has_room_by AtLeast limit value = is_less limit value
has_room_by AtMost limit value = is_less value limit

-- the sign that a multiplier has on this side
abbrev pub has_sign : Side → Fraction → Bool
has_sign AtLeast q = is_below none q
has_sign AtMost q = is_below q none

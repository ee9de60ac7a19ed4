-- Which operations on numbers are asked whether they leave a width, and what leaves 128 bits.
use Rattle.std.specs.Prelude.{Bool, true, Option, Some, None, [], ◌∷◌, map}
use Rattle.std.specs.Int.{int_div_euclid}
use Rattle.vx_ast.specs.declared.Place.{Place}
use Rattle.vx_ast.specs.Syntax.{Operator, Add, Subtract, Multiply, Division, Quotient, Remainder}
use Rattle.vx_frac.specs.declared.Op.{Op}
use Rattle.vx_frac.specs.declared.Op.TheVariants as calls
use Rattle.vx_frac.specs.Fractions.{Fraction, whole, lowest, product, fits_i128, sum_fits, difference_fits, product_fits}
use Rattle.vx_meaning.specs.Values.{Value, IntValue, PermValue, operated, divided}
use Rattle.vx_meaning.specs.States.{Holdings, Resource, At, Folded, amount, gained, lost}
use Rattle.vx_run.specs.Going.{Going, ◌>>=◌, gives, require, expect, Failed, Wide}

-- which numbers there are: how a fraction is written, and whether the result of an operation on two of them is there
pub record Width : Type 0 where
  pub written : Fraction → Fraction
  pub fits : Op → Fraction → Fraction → Bool

-- all numbers, and fractions as they come
abbrev pub without_width : Width
without_width = record { written = λ a. a; fits = λ op a b. true }

-- for fractions also all that is computed on the way to the result; a quotient is one of whole numbers, and a comparison gives no number
abbrev pub fits_128_bits : Op → Fraction → Fraction → Bool
fits_128_bits calls.Add a b = sum_fits a b
fits_128_bits calls.Sub a b = difference_fits a b
fits_128_bits calls.Mul a b = product_fits a b
fits_128_bits calls.Cmp a b = true
fits_128_bits calls.Div a b = fits_i128 (int_div_euclid a.numerator b.numerator)

-- numbers of 128 bits, and fractions in lowest terms
abbrev pub within_128_bits : Width
within_128_bits = record { written = lowest; fits = fits_128_bits }

-- a number as a fraction
abbrev pub number_of : Value → Option Fraction
number_of (IntValue z) = Some (whole z)
number_of (PermValue q) = Some q
number_of _ = None

-- what an operator computes; a comparison gives no number
abbrev pub call_of : Operator → Option Op
call_of Add = Some calls.Add
call_of Subtract = Some calls.Sub
call_of Multiply = Some calls.Mul
call_of _ = None

-- a remainder never leaves the width
abbrev pub call_of_division : Division → Option Op
call_of_division Quotient = Some calls.Div
call_of_division Remainder = None

-- a value with its fraction so written
abbrev pub written_by : Width → Value → Value
written_by width (PermValue q) = PermValue (width.written q)
written_by width v = v

-- holdings with their fractions so written
abbrev pub written_resource : Width → Resource → Resource
written_resource width (At l) = At l
written_resource width (Folded i) = Folded record { predicate = i.predicate; arguments = map (written_by width) i.arguments }

abbrev pub written_all : Width → Holdings → Holdings
written_all width [] = []
written_all width (e ∷ rest) = (written_resource width e.0, width.written e.1) ∷ written_all width rest

module _ {S : Type 0} (width : Width) where
  -- the run goes on where the operation stays within the width
  abbrev pub asked : Place → Op → Fraction → Fraction → Going S (Unit {0})
  asked at op a b =
      let c = width.written a in let d = width.written b in require (width.fits op c d) (Wide at op c d)

  abbrev pub asked_of : Place → Option Op → Option Fraction → Option Fraction → Going S (Unit {0})
  asked_of at (Some op) (Some a) (Some b) = asked at op a b
  asked_of at _ _ _ = gives tt

  abbrev pub operate : Place → Operator → Value → Value → Going S Value
  operate at op v w =
      expect (operated op v w) (Failed at) >>= λ u. asked_of at (call_of op) (number_of v) (number_of w) >>= λ _. gives (written_by width u)

  abbrev pub divide : Place → Division → Value → Value → Going S Value
  divide at op v w =
      expect (divided op v w) (Failed at) >>= λ u. asked_of at (call_of_division op) (number_of v) (number_of w) >>= λ _. gives (written_by width u)

  -- q times an amount, written as the width does
  abbrev pub times : Place → Fraction → Fraction → Going S Fraction
  times at q b = asked at calls.Mul q b >>= λ _. gives (width.written (product q b))

  -- with an amount more
  abbrev pub more : Place → Resource → Fraction → Holdings → Going S Holdings
  more at r b h = asked at calls.Add (amount h r) b >>= λ _. gives (gained r b h)

  -- with an amount less
  abbrev pub less : Place → Resource → Fraction → Holdings → Going S Holdings
  less at r b h = asked at calls.Sub (amount h r) b >>= λ _. gives (lost r b h)

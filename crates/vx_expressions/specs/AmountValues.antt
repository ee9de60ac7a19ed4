-- The value of an amount that is known without running.
use Rattle.std.specs.Prelude.{◌≡◌, ◌<◌, ℕ, true, pos}
use Rattle.vx_ast.specs.declared.Place.{Place}
use Rattle.vx_ast.specs.declared.BinaryOperator.TheVariants as binary
use Rattle.vx_frac.specs.Fractions as number
use Rattle.vx_frac.specs.Fractions.{Fraction}
use Rattle.vx_ast.specs.Written.{Expr, Number, Whole, Nothing, Binary}

-- The value of an amount without variables: each operation on fractions in number.lowest terms, where its numbers fit 128 bits.
pub data HasAmount : Expr → Fraction → Type 0 where
  whole : (at : Place) → HasAmount (Whole at) number.full
  nothing : (at : Place) → HasAmount (Nothing at) number.none
  fraction : (at p q : Place) (n d : ℕ) → number.fits_i128 (pos n) ≡ true → number.fits_i128 (pos d) ≡ true → 0 < d → HasAmount (Binary at binary.Divide (Number p n) (Number q d)) (number.lowest (number.over n d))
  sum : (at : Place) {a b : Expr} {f g : Fraction} → HasAmount a f → HasAmount b g → number.sum_fits f g ≡ true → HasAmount (Binary at binary.Add a b) (number.lowest (number.sum f g))
  difference : (at : Place) {a b : Expr} {f g : Fraction} → HasAmount a f → HasAmount b g → number.difference_fits f g ≡ true → HasAmount (Binary at binary.Subtract a b) (number.lowest (number.difference f g))
  multiple : (at p : Place) (n : ℕ) {b : Expr} {g : Fraction} → HasAmount b g → number.fits_i128 (pos n) ≡ true → number.product_fits (number.lowest (number.over n 1)) g ≡ true → HasAmount (Binary at binary.Multiply (Number p n) b) (number.lowest (number.product (number.lowest (number.over n 1)) g))

-- an amount that may stand in a predicate's body or a function's precondition
abbrev pub IsConstantAmount : Expr → Type 0
IsConstantAmount e = (f : Fraction) × HasAmount e f × (number.is_positive f ≡ true)

-- What amounts of permission are made of.
use Rattle.std.specs.Prelude.{ℕ}
use Rattle.vx_ast.specs.declared.Place.{Place}
use Rattle.vx_ast.specs.declared.BinaryOperator.TheVariants as binary
use Rattle.vx_ast.specs.Written.{Name, Expr, Number, Whole, Nothing, Variable, Binary}

-- `write`, `none`, fractions of numerals, variables, and their sums, differences and multiples by a numeral
pub data IsAmount : Expr → Type 0 where
  whole : (at : Place) → IsAmount (Whole at)
  nothing : (at : Place) → IsAmount (Nothing at)
  fraction : (at p q : Place) (n d : ℕ) → IsAmount (Binary at binary.Divide (Number p n) (Number q d))
  variable : (at : Place) (x : Name) → IsAmount (Variable at x)
  sum : (at : Place) {a b : Expr} → IsAmount a → IsAmount b → IsAmount (Binary at binary.Add a b)
  difference : (at : Place) {a b : Expr} → IsAmount a → IsAmount b → IsAmount (Binary at binary.Subtract a b)
  multiple : (at p : Place) (n : ℕ) {b : Expr} → IsAmount b → IsAmount (Binary at binary.Multiply (Number p n) b)

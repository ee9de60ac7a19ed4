-- The types of values.
use Rattle.std.specs.Prelude.{ℕ, Bool, true, false, nat_eq}
use Rattle.vx_ast.specs.declared.ValueType.{ValueType}
use Rattle.vx_ast.specs.declared.ValueType.TheVariants as type

abbrev pub number_of_type : ValueType → ℕ
number_of_type type.Int = 0
number_of_type type.Bool = 1
number_of_type type.Ref = 2
number_of_type type.Perm = 3

abbrev pub same_type : ValueType → ValueType → Bool
same_type t u = nat_eq (number_of_type t) (number_of_type u)

-- the types whose values `<` and `<=` compare, and `+` and `-` take
abbrev pub is_ordered : ValueType → Bool
is_ordered type.Int = true
is_ordered type.Perm = true
is_ordered _ = false

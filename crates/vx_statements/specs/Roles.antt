-- What variables are declared as.
use Rattle.std.specs.Prelude.{◌++◌, Bool, true, false, List, [], ◌∷◌}
use Rattle.vx_ast.specs.declared.ValueType.{ValueType}
use Rattle.vx_ast.specs.declared.ValueType.TheVariants as type
use Rattle.vx_ast.specs.Written.{Declaration}
use Rattle.vx_statements.specs.declared.names.Role.{Role}
use Rattle.vx_statements.specs.declared.names.Role.TheVariants.{Input, Parameter, Local}
use Rattle.vx_expressions.specs.Scopes.{Scope}

-- a variable is declared as an input of a predicate or a function, which is not Perm, as a parameter of a method, or as a
-- local variable or a return, which can be assigned
abbrev pub is_assignable : Role → Bool
is_assignable Input = false
is_assignable Parameter = false
is_assignable Local = true

abbrev pub takes : Role → ValueType → Bool
takes Input type.Perm = false
takes _ _ = true

-- one variable more
abbrev pub with_variable : Role → Declaration → Scope → Scope
with_variable role d scope = scope ++ (d.name.name, record { of = d.of; assignable = is_assignable role }) ∷ []

abbrev pub with_variables : Role → List Declaration → Scope → Scope
with_variables role [] scope = scope
with_variables role (d ∷ ds) scope = with_variables role ds (with_variable role d scope)

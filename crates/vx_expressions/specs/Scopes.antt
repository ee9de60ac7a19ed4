-- Names, and what they stand for.
use Rattle.std.specs.Prelude.{List, [], ◌∷◌, Option, Some, None, option_map, if◌then◌else◌}
use Rattle.vx_ast.specs.declared.ValueType.{ValueType}
use Rattle.vx_ast.specs.Written.{Name}
use Rattle.vx_ast.specs.Syntax.{same_name}
use Rattle.vx_expressions.specs.declared.setting.Variable.{Variable}

-- what the first of this name stands for
abbrev pub named : {X : Type 0} → List (Name × X) → Name → Option X
named [] x = None
named (e ∷ es) x = if same_name x e.0 then Some e.1 else named es x

-- the variables that are known, in the order of their declarations
abbrev pub Scope : Type 0
Scope = List (Name × Variable)

abbrev pub type_in : Scope → Name → Option ValueType
type_in scope x = option_map (λ v. v.of) (named scope x)

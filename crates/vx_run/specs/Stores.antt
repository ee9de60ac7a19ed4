-- The store that variables in code are, and where a variable stands.
use Rattle.std.specs.Prelude.{ℕ, suc, List, [], ◌∷◌, map, string_bytes, Option, Some, None, option_map, if◌then◌else◌}
use Rattle.vx_ast.specs.Syntax.{Name, same_name}
use Rattle.vx_meaning.specs.States.{Store}
use Rattle.vx_run.specs.Views.{value}
use Rattle.vx_run.specs.declared.store.Variable.{Variable}

abbrev pub store : List Variable → Store
store xs = map (λ x. (string_bytes x.name.value, value x.value)) xs

abbrev pub place_in : Name → Store → Option ℕ
place_in x [] = None
place_in x (e ∷ rest) = if same_name x e.0 then Some 0 else option_map suc (place_in x rest)

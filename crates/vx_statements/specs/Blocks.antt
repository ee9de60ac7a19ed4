-- Scopes that grow.
use Rattle.std.specs.Prelude.{◌≡◌, ◌++◌}
use Rattle.vx_expressions.specs.Scopes.{Scope}

-- the first ones stay
abbrev pub Extends : Scope → Scope → Type 0
Extends before after = (added : Scope) × (after ≡ before ++ added)

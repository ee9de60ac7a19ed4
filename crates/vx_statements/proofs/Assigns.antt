-- An assignment of a call.
use Rattle.std.proofs.Common.{◌≡◌, ◌∙◌, ap, true, [], ◌∷◌}
use Rattle.std.specs.Prelude.{if◌then◌else◌}
use Rattle.vx_ast.specs.declared.Place.{Place}
use Rattle.vx_ast.specs.Written.{Name, Placed, placed, Call, Exprs, Right, Value}
use Rattle.vx_expressions.specs.Scopes.{Scope, named}
use Rattle.vx_expressions.specs.Settings.{Table}
use Rattle.vx_statements.specs.StatementFaults.{is_method, call, assigned, assign}

pub calls : (table : Table) (scope : Scope) (x : Placed) (r : Right) (at : Place) (m : Name) (es : Exprs) → r ≡ Value (Call at m es) → is_method (named table m) ≡ true →
    assign table scope x r ≡ call table scope (x ∷ []) (placed at m) es
calls table scope x r at m es view h =
    ap (assign table scope x) view ∙ ap (λ b. if b then call table scope (x ∷ []) (placed at m) es else assigned table scope x (Value (Call at m es))) h

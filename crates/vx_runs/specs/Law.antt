-- Where no member fails, no whole run does.
use Rattle.std.specs.Prelude.{◌≡◌, Some}
use Rattle.vx_ast.specs.declared.Place.{Place}
use Rattle.vx_ast.specs.Syntax.{Name, Program, Method, Kind, member_named, method_named}
use Rattle.vx_meaning.specs.Fails.{Fails}
use Rattle.vx_types.specs.Premises.{IsTypedProgram}
use Rattle.vx_runs.specs.Whole.{WholeRunFails}

abbrev pub NoneFails : Program → Type 0
NoneFails p = (x : Name) (k : Kind) → member_named p x ≡ Some k → Fails p x k → ⊥

-- of any method, at any place
abbrev pub NoWholeRunFails : Program → Type 0
NoWholeRunFails p = (x : Name) (m : Method) → method_named p x ≡ Some m → (at : Place) → WholeRunFails p m at → ⊥

abbrev pub WholeRunLaw : Type 0
WholeRunLaw = (p : Program) → IsTypedProgram p → NoneFails p → NoWholeRunFails p

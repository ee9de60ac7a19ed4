use Rattle.std.proofs.Common.{◌≡◌, map, take}
use Rattle.vx_ast.specs.Resolve as resolve
use Rattle.vx_resolved.specs.Resolved as view
use Rattle.vx_ast.specs.Written.{written_declaration}
use Rattle.vx_settling.proofs.members.declarations.Given as goal

abbrev pub invariant-loop-d : goal.invariant-loop-d
invariant-loop-d l = (names : resolve.Names) → map view.declaration l.settled.items ≡ map (resolve.declaration names) (map written_declaration (take l.d-index l.all))

use Rattle.std.proofs.Common.{◌≡◌, ◌++◌, drop}
use Rattle.vx_ast.specs.Resolve.{assertions}
use Rattle.vx_ast.specs.Written.{written_all}
use Rattle.vx_resolved.specs.Resolved as view
use Rattle.vx_settling.specs.Names.{names_in}
use Rattle.vx_settling.proofs.assertions.assertions.Given as goal

abbrev pub invariant-loop-e : goal.invariant-loop-e
invariant-loop-e l = view.assertions l.done.items ++ assertions (names_in l.names) (written_all (drop l.e-index l.all)) ≡ assertions (names_in l.names) (written_all l.all)

use Rattle.std.proofs.Common.{◌≡◌, ◌++◌, drop, map}
use Rattle.vx_ast.specs.Resolve.{expression}
use Rattle.vx_ast.specs.Written.{ensures_of, written_clause}
use Rattle.vx_resolved.specs.Resolved as view
use Rattle.vx_settling.proofs.functions.promises.Given as goal

abbrev pub invariant-loop-clause : goal.invariant-loop-clause
invariant-loop-clause l = view.expressions l.promises.items ++ map expression (ensures_of (map written_clause (drop l.clause-index l.all))) ≡ map expression (ensures_of (map written_clause l.all))

use Rattle.std.proofs.Common.{◌≡◌, ◌++◌, drop, map}
use Rattle.vx_resolved.specs.Resolved as view
use Rattle.vx_ast.specs.Written.{written_clause}
use Rattle.vx_settling.specs.Names.{names_in}
use Rattle.vx_settling.specs.Parts.{required, ensured}
use Rattle.vx_settling.proofs.clauses.clauses.Given as goal

abbrev pub invariant-loop-clause : goal.invariant-loop-clause
invariant-loop-clause l = record {
  before : view.assertions l.contract.preconditions.items ++ required (names_in l.names) (map written_clause (drop l.clause-index l.all)) ≡ required (names_in l.names) (map written_clause l.all);
  after : view.assertions l.contract.postconditions.items ++ ensured (names_in l.names) (map written_clause (drop l.clause-index l.all)) ≡ ensured (names_in l.names) (map written_clause l.all);
}

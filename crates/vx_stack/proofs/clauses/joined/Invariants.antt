use Rattle.std.proofs.Common.{◌≡◌, drop}
use Rattle.vx_resolved.specs.Resolved.{assertion, assertions}
use Rattle.vx_ast.specs.Syntax.{joined_with}
use Rattle.vx_stack.proofs.clauses.joined.Given as goal

abbrev pub invariant-loop-clause : goal.invariant-loop-clause
invariant-loop-clause l = joined_with (assertion l.all.value) (assertions (drop l.clause-index l.rest)) ≡ joined_with (assertion l.initial.all.value) (assertions l.rest)

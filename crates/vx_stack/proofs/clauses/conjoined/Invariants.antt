use Rattle.std.proofs.Common.{◌≡◌, drop}
use Rattle.vx_resolved.specs.Resolved.{expr, expressions}
use Rattle.vx_ast.specs.Syntax.{conjoined_with}
use Rattle.vx_stack.proofs.clauses.conjoined.Given as goal

abbrev pub invariant-loop-e : goal.invariant-loop-e
invariant-loop-e l = conjoined_with (expr l.all.value) (expressions (drop l.e-index l.rest)) ≡ conjoined_with (expr l.initial.all.value) (expressions l.rest)

use Rattle.std.proofs.Common.{◌≡◌, vec_len}
use Rattle.vx_ast.specs.Syntax.{Done}
use Rattle.vx_resolved.specs.Resolved as view
use Rattle.vx_settling.specs.Parts.{onto, stmts}
use Rattle.vx_settling.proofs.stmt.linked.Given as goal

abbrev pub invariant-loop-s : goal.invariant-loop-s
invariant-loop-s l = onto (stmts l.statements.items) (view.block l.block.value) ≡ onto (stmts l.fn.done.items) Done

abbrev pub decreases-loop-s : goal.decreases-loop-s
decreases-loop-s l = vec_len l.statements

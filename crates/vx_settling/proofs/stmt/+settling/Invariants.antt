use Rattle.std.proofs.Common.{◌≡◌, drop}
use Rattle.vx_ast.specs.Resolve.{block}
use Rattle.vx_settling.specs.Parts.{onto, stmts}
use Rattle.vx_settling.specs.Names.{names_in}
use Rattle.vx_ast.specs.Written.{written_list}
use Rattle.vx_settling.proofs.stmt.+settling.Given as goal

abbrev pub invariant-statements-loop-s : goal.invariant-statements-loop-s
invariant-statements-loop-s l = onto (stmts l.done.items) (block (names_in l.names) (written_list (drop l.s-index l.all))) ≡ onto (stmts l.initial.done.items) (block (names_in l.names) (written_list l.all))

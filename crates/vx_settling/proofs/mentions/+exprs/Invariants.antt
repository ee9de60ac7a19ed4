use Rattle.std.proofs.Common.{◌≡◌, ◌≤◌, ◌++◌, List}
use Rattle.vx_ast.specs.Mentions.{mentioned_in}
use Rattle.vx_ast.specs.Syntax.{Name}
use Rattle.vx_settling.specs.Found.{found}
use Rattle.vx_settling.specs.Tables.{listed}
use Rattle.vx_resolved.specs.Resolved.{exprs}
use Rattle.vx_resolved.specs.declared.Exprs.{size-Exprs}
use Rattle.vx_settling.proofs.mentions.+exprs.Given as goal

-- what is left of the list is still to be added
abbrev pub invariant-add_exprs-loop-left : goal.invariant-add_exprs-loop-left
invariant-add_exprs-loop-left l = record {
  smaller : size-Exprs l.left ≤ size-Exprs l.fn.es;
  added : (rest : List Name) → found (listed l.table) l.row.items (mentioned_in (exprs l.left) ++ rest) ≡ found (listed l.table) l.fn.row.items (mentioned_in (exprs l.fn.es) ++ rest);
}

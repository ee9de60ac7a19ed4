use Rattle.std.proofs.Common.{◌≡◌, ◌≤◌, ◌++◌, List, length}
use Rattle.vx_ast.specs.Mentions.{mentioned_in}
use Rattle.vx_ast.specs.Syntax.{Name}
use Rattle.vx_closure.specs.Known.{known}
use Rattle.vx_resolved.specs.Resolved.{exprs}
use Rattle.vx_resolved.specs.Settled.{settled}
use Rattle.vx_resolved.specs.declared.Exprs.{size-Exprs}
use Rattle.vx_closure.proofs.mentions.+exprs.Given as goal

-- what is left of the list is still to be added
abbrev pub invariant-add_exprs-loop-left : goal.invariant-add_exprs-loop-left
invariant-add_exprs-loop-left l = record {
  smaller : size-Exprs l.left ≤ size-Exprs l.fn.es;
  members : length l.rows.items ≡ length l.fn.rows.items;
  added : (rest : List Name) → known (settled l.program) l.rows.items l.by.0 (mentioned_in (exprs l.left) ++ rest) ≡ known (settled l.program) l.fn.rows.items l.by.0 (mentioned_in (exprs l.fn.es) ++ rest);
}

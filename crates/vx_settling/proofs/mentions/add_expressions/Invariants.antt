use Rattle.std.proofs.Common.{◌≡◌, ◌++◌, List, drop}
use Rattle.std.specs.Prelude.{flat_map}
use Rattle.vx_ast.specs.Mentions.{mentioned}
use Rattle.vx_ast.specs.Syntax.{Name}
use Rattle.vx_settling.specs.Found.{found}
use Rattle.vx_settling.specs.Tables.{listed}
use Rattle.vx_resolved.specs.Resolved.{expressions}
use Rattle.vx_settling.proofs.mentions.add_expressions.Given as goal

-- those that are left are still to be added
abbrev pub invariant-loop-e : goal.invariant-loop-e
invariant-loop-e l = (rest : List Name) → found (listed l.table) l.row.items (flat_map mentioned (expressions (drop l.e-index l.those)) ++ rest) ≡ found (listed l.table) l.fn.row.items (flat_map mentioned (expressions l.those) ++ rest)

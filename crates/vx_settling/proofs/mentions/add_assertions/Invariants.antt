use Rattle.std.proofs.Common.{◌≡◌, ◌++◌, List, drop}
use Rattle.std.specs.Prelude.{flat_map}
use Rattle.vx_ast.specs.Mentions.{mentioned_by}
use Rattle.vx_ast.specs.Syntax.{Name}
use Rattle.vx_settling.specs.Found.{found}
use Rattle.vx_settling.specs.Tables.{listed}
use Rattle.vx_resolved.specs.Resolved.{assertions}
use Rattle.vx_settling.proofs.mentions.add_assertions.Given as goal

-- those that are left are still to be added
abbrev pub invariant-loop-a : goal.invariant-loop-a
invariant-loop-a l = (rest : List Name) → found (listed l.table) l.row.items (flat_map mentioned_by (assertions (drop l.a-index l.those)) ++ rest) ≡ found (listed l.table) l.fn.row.items (flat_map mentioned_by (assertions l.those) ++ rest)

use Rattle.std.proofs.Common.{◌≡◌, ◌++◌, List, drop, length}
use Rattle.std.specs.Prelude.{flat_map}
use Rattle.vx_ast.specs.Mentions.{mentioned}
use Rattle.vx_ast.specs.Syntax.{Name}
use Rattle.vx_closure.specs.Known.{known}
use Rattle.vx_resolved.specs.Resolved.{expressions}
use Rattle.vx_resolved.specs.Settled.{settled}
use Rattle.vx_closure.proofs.mentions.add_all.Given as goal

-- those that are left are still to be added
abbrev pub invariant-loop-e : goal.invariant-loop-e
invariant-loop-e l = record {
  members : length l.rows.items ≡ length l.fn.rows.items;
  added : (rest : List Name) → known (settled l.program) l.rows.items l.by.0 (flat_map mentioned (expressions (drop l.e-index l.those)) ++ rest) ≡ known (settled l.program) l.fn.rows.items l.by.0 (flat_map mentioned (expressions l.those) ++ rest);
}

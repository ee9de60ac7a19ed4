use Rattle.std.proofs.Common.{◌≡◌, ◌++◌, List, drop, length}
use Rattle.vx_ast.specs.Syntax.{Name}
use Rattle.vx_closure.specs.Known.{known}
use Rattle.vx_resolved.specs.Resolved.{assertions}
use Rattle.vx_resolved.specs.Settled.{settled}
use Rattle.vx_types.specs.Closure.{mentioned_by_all}
use Rattle.vx_closure.proofs.mentions.add_assertions.Given as goal

-- those that are left are still to be added
abbrev pub invariant-loop-a : goal.invariant-loop-a
invariant-loop-a l = record {
  members : length l.rows.items ≡ length l.fn.rows.items;
  added : (rest : List Name) → known (settled l.program) l.rows.items l.by.0 (mentioned_by_all (assertions (drop l.a-index l.those)) ++ rest) ≡ known (settled l.program) l.fn.rows.items l.by.0 (mentioned_by_all (assertions l.those) ++ rest);
}

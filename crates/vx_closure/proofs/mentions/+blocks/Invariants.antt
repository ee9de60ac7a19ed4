use Rattle.std.proofs.Common.{◌≡◌, ◌≤◌, ◌++◌, List, length}
use Rattle.vx_ast.specs.Syntax.{Name}
use Rattle.vx_closure.specs.Known.{known}
use Rattle.vx_resolved.specs.Resolved.{block}
use Rattle.vx_resolved.specs.Settled.{settled}
use Rattle.vx_resolved.specs.declared.Block.{size-Block}
use Rattle.vx_types.specs.Closure.{mentioned_by_block}
use Rattle.vx_closure.proofs.mentions.+blocks.Given as goal

-- what is left of the block is still to be added
abbrev pub invariant-add_block-loop-left : goal.invariant-add_block-loop-left
invariant-add_block-loop-left l = record {
  smaller : size-Block l.left ≤ size-Block l.fn.block;
  members : length l.rows.items ≡ length l.fn.rows.items;
  added : (rest : List Name) → known (settled l.program) l.rows.items l.by.0 (mentioned_by_block (settled l.program) (block l.left) ++ rest) ≡ known (settled l.program) l.fn.rows.items l.by.0 (mentioned_by_block (settled l.program) (block l.fn.block) ++ rest);
}

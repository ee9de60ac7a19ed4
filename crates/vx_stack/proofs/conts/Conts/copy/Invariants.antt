use Rattle.std.proofs.Common.{◌≡◌, map, take}
use Rattle.vx_ast.specs.Syntax.{Program}
use Rattle.vx_stack.specs.Stack.{side_tree}
use Rattle.vx_stack.proofs.conts.Conts.copy.Given as goal

abbrev pub invariant-loop-side : goal.invariant-loop-side
invariant-loop-side l = (p : Program) → map (side_tree p) l.sides.items ≡ map (side_tree p) (take l.side-index l.side-items)

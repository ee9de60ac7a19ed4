use Rattle.std.proofs.Common.{◌≡◌, ◌≤◌, ◌++◌, List}
use Rattle.vx_ast.specs.Syntax.{Name, assigned_in}
use Rattle.vx_resolved.specs.Resolved.{block, names_of}
use Rattle.vx_resolved.specs.declared.Block.{size-Block}
use Rattle.vx_rules.specs.Members.{forget}
use Rattle.vx_states.specs.SymStates.{state}
use Rattle.vx_states.proofs.state.SymState.+forgetting.Given as goal

-- what is left of the block is still to be forgotten
abbrev pub invariant-forget_block-loop-left : goal.invariant-forget_block-loop-left
invariant-forget_block-loop-left l =
    (size-Block l.left ≤ size-Block l.fn.block)
    × ((rest : List Name) → forget (names_of l.done.items) (assigned_in (block l.left) ++ rest) (state l.self) ≡ forget (names_of l.fn.done.items) (assigned_in (block l.fn.block) ++ rest) (state l.fn.self))

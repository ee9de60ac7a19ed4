use Rattle.std.proofs.Common.{◌≡◌, suc, ◌+◌, ◌≤◌, length}
use Rattle.cs_commands.specs.Commands.{behind_lists}
use Rattle.cs_commands.proofs.command.behind_list.Given as goal

abbrev pub invariant-loop-lists : goal.invariant-loop-lists
invariant-loop-lists l = record {
  rest : behind_lists l.lists l.rest ≡ behind_lists 1 l.fn.tokens;
  few : l.lists + length l.rest ≤ suc (length l.fn.tokens);
}

abbrev pub decreases-loop-lists : goal.decreases-loop-lists
decreases-loop-lists l = length l.rest

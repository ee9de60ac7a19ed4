use Rattle.std.proofs.Common.{◌≡◌, drop}
use Rattle.vx_dialogue.specs.Items.{without_blanks}
use Rattle.vx_dialogue.proofs.item.trimmed.Given as goal

abbrev pub invariant-loop-i : goal.invariant-loop-i
invariant-loop-i l = without_blanks (drop l.i l.bytes) ≡ without_blanks l.bytes

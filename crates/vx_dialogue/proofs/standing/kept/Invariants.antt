use Rattle.std.proofs.Common.{◌≡◌, map, drop}
use Rattle.vx_segments.specs.Views.{entry}
use Rattle.vx_dialogue.specs.Kept.{kept_from, kept}
use Rattle.vx_dialogue.specs.Standing.{entries_of}
use Rattle.vx_dialogue.proofs.standing.kept.Given as goal

abbrev pub invariant-loop-i : goal.invariant-loop-i
invariant-loop-i l = kept_from l.last l.start l.i (entries_of (drop l.i l.sent)) (map entry (drop l.i l.path)) ≡ kept (entries_of l.sent) (map entry l.path)

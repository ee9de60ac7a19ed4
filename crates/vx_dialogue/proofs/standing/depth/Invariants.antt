use Rattle.std.proofs.Common.{◌≡◌, ◌≤◌, ◌+◌, drop}
use Rattle.vx_dialogue.specs.Segments as segments
use Rattle.vx_dialogue.specs.Standing.{entries_of}
use Rattle.vx_dialogue.proofs.standing.depth.Given as goal

abbrev pub invariant-loop-s : goal.invariant-loop-s
invariant-loop-s l = record {
  all : l.levels + segments.depth l.last (entries_of (drop l.s-index l.sent)) ≡ segments.depth l.before (entries_of l.sent);
  few : l.levels ≤ l.s-index;
}

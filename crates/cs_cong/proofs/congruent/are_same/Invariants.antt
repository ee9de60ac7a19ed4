use Rattle.std.proofs.Common.{◌≡◌, drop}
use Rattle.cs_cong.specs.Merged.{current}
use Rattle.cs_cong.specs.Joined.{all_same}
use Rattle.cs_cong.proofs.congruent.are_same.Given as goal

abbrev pub invariant-loop-at : goal.invariant-loop-at
invariant-loop-at l = all_same (current l.merges.log.items) l.xs l.ys ≡ all_same (current l.merges.log.items) (drop l.at l.xs) (drop l.at l.ys)

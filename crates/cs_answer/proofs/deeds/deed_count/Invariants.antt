use Rattle.std.proofs.Common.{◌≡◌, ◌+◌, ◌≤◌, take, drop}
use Rattle.cs_answer.specs.Deeds as clean
use Rattle.cs_answer.proofs.deeds.deed_count.Given as goal

abbrev pub invariant-loop-i : goal.invariant-loop-i
invariant-loop-i l = (l.count + clean.deeds_behind (take l.i l.steps) (drop l.i l.steps) ≡ clean.deeds l.steps) × (l.count ≤ l.i)

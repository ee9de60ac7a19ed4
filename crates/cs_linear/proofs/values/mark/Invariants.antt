use Rattle.std.proofs.Common.{◌≡◌, length, drop}
use Rattle.cs_linear.specs.Limits.{marked}
use Rattle.cs_linear.proofs.values.mark.Given as goal

abbrev pub invariant-loop-step : goal.invariant-loop-step
invariant-loop-step l = record {
  count : length l.marks.items ≡ length l.initial.marks.items;
  left : marked (drop l.step-index l.moves) l.marks.items ≡ marked l.moves l.initial.marks.items;
}

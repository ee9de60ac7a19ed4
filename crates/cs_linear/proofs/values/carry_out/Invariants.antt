use Rattle.std.proofs.Common.{◌≡◌, length, drop}
use Rattle.cs_linear.specs.Values.{arrived}
use Rattle.cs_linear.proofs.values.carry_out.Given as goal

abbrev pub invariant-loop-step : goal.invariant-loop-step
invariant-loop-step l = record {
  count : length l.values.items ≡ length l.initial.values.items;
  left : arrived (drop l.step-index l.moves) l.values.items ≡ arrived l.moves l.initial.values.items;
}

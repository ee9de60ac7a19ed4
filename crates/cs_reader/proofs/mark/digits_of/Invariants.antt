use Rattle.std.proofs.Common.{◌≡◌, ◌<◌, ◌^◌, drop}
use Rattle.cs_reader.specs.Marks.{digits}
use Rattle.cs_reader.proofs.mark.digits_of.Given as goal

abbrev pub invariant-loop-digit : goal.invariant-loop-digit
invariant-loop-digit l = record {
  value : digits l.value (drop l.digit-index l.text) ≡ digits 0 l.fn.text;
  small : l.value < 2 ^ 127;
}

use Rattle.std.proofs.Common.{◌≡◌, ◌<◌, drop}
use Rattle.cs_commands.specs.Names.{digits}
use Rattle.cs_commands.proofs.number.digits_of.Given as goal

abbrev pub invariant-loop-digit : goal.invariant-loop-digit
invariant-loop-digit l = record {
  value : digits l.limit l.value (drop l.digit-index l.text) ≡ digits l.limit 0 l.fn.text;
  small : l.value < l.limit;
}

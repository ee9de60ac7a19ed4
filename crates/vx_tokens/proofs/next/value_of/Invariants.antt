use Rattle.std.proofs.Common.{◌≡◌, ◌≤◌, drop}
use Rattle.vx_tokens.specs.Text.{value_of, value_from, max_numeral}
use Rattle.vx_tokens.proofs.next.value_of.Given as goal

-- the digits that are left complete the value
abbrev pub invariant-loop-digit : goal.invariant-loop-digit
invariant-loop-digit l = record {
  rest : value_from l.value (drop l.digit-index l.digits) ≡ value_of l.digits;
  small : l.value ≤ max_numeral;
}

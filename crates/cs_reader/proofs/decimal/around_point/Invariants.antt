use Rattle.std.proofs.Common.{◌≡◌, ◌++◌, drop, take}
use Rattle.vx_sexp.specs.Tokens.{before_point, behind_point}
use Rattle.cs_reader.proofs.decimal.around_point.Given as goal

abbrev pub invariant-loop-at : goal.invariant-loop-at
invariant-loop-at l = record {
  before : before_point l.text ≡ take l.at l.text ++ before_point (drop l.at l.text);
  behind : behind_point l.text ≡ behind_point (drop l.at l.text);
}

use Rattle.std.proofs.Common.{◌≡◌, ◌≤◌, length, map, vec_capacity, vec_len}
use Rattle.vx_smt_meaning.specs.Views.{declared_symbol}
use Rattle.vx_verifier.specs.Verifying.{AreFresh}
use Rattle.vx_verifier.proofs.verifying.begin_all.Given as goal

abbrev pub invariant-loop-lane : goal.invariant-loop-lane
invariant-loop-lane g l = record {
  each : length l.lanes.items ≡ l.lane;
  count : vec_len l.lanes ≡ l.lane;
  room : l.jobs ≤ vec_capacity l.lanes;
  fresh : AreFresh l.jobs l.command (map declared_symbol l.functions) l.lanes.items;
}

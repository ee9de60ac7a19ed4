use Rattle.std.proofs.Common.{◌≡◌, length, map, take, drop, reverse}
use Rattle.vx_verifier.proofs.verifying.take_runs.Given as goal

abbrev pub invariant-loop-i : goal.invariant-loop-i
invariant-loop-i g l = record {
  each : length l.lanes ≡ length l.fn.lanes;
  lines : map (λ x. x.1) l.lanes ≡ map (λ x. x.1) l.fn.lanes;
  rest : drop l.i (map (λ x. x.0.runs.items) l.lanes) ≡ drop l.i (map (λ x. x.0.runs.items) l.fn.lanes);
  taken : map (λ pile. reverse pile.items) l.piles.items ≡ take l.i (map (λ x. x.0.runs.items) l.fn.lanes);
}

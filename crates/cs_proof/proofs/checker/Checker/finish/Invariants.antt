use Rattle.std.proofs.Common.{◌≡◌, None}
use Rattle.cs_proof.specs.Checking.{verdict}
use Rattle.cs_proof.specs.CheckerView.{checker}
use Rattle.cs_proof.proofs.checker.Checker.finish.Given as goal

abbrev pub invariant-loop-at : goal.invariant-loop-at
invariant-loop-at l = record {
  same : verdict (checker l.self) ≡ verdict (checker l.fn.self);
  here : (checker l.self).refusal ≡ None → (checker l.self).done ≡ l._at;
  duties : (checker l.self).duties ≡ (checker l.fn.self).duties;
}

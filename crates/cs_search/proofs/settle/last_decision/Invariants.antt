use Rattle.std.proofs.Common.{◌≡◌, ℕ, ◌<◌, ◌≤◌, Some}
use Rattle.std.specs.List.{slice_get}
use Rattle.cs_search.specs.declared.Entry.{Entry}
use Rattle.cs_search.specs.Settled.{HasReason}
use Rattle.cs_search.proofs.settle.last_decision.Given as goal

abbrev pub invariant-loop-k : goal.invariant-loop-k
invariant-loop-k l = record {
  within : l.k ≤ l.below;
  forced : (j : ℕ) (e : Entry) → l.k ≤ j → j < l.below → slice_get l.trail j ≡ Some e → HasReason e;
}

abbrev pub decreases-loop-k : goal.decreases-loop-k
decreases-loop-k l = l.k

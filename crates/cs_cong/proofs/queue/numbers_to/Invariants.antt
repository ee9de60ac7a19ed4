use Rattle.std.proofs.Common.{◌≡◌, ℕ, ◌<◌, true}
use Rattle.std.specs.Prelude.{All}
use Rattle.cs_cong.specs.Signatures.{has}
use Rattle.cs_cong.proofs.queue.numbers_to.Given as goal

abbrev pub invariant-loop-at : goal.invariant-loop-at
invariant-loop-at l = record {
  within : All (λ a. a < l.count) l.numbers.items;
  all : (a : ℕ) → a < l.at → has l.numbers.items a ≡ true;
}

use Rattle.std.proofs.Common.{◌≡◌, ℕ, ◌<◌, List, length}
use Rattle.vx_pool.specs.Counts.{total}
use Rattle.vx_verifier.specs.Verifying.{ArePiles}
use Rattle.vx_verifier.proofs.Deal.{Deals}
use Rattle.vx_verifier.proofs.verifying.deal_out.Given as goal

abbrev pub invariant-piles : goal.invariant-piles
invariant-piles l = record {
  each : length l.piles ≡ length l.fn.piles;
  within : l.at < length l.piles;
  deals : (ns : List ℕ) → ArePiles ns l.fn.piles → Deals ns l.fn.piles l.piles l.runs.items l.at;
}

abbrev pub decreases-piles : goal.decreases-piles
decreases-piles l = total (λ pile. length pile.items) l.piles

-- Reachability by way of marked members alone.
use Rattle.std.specs.Prelude.{◌≡◌, ℕ, Bool, true, List}
use Rattle.vx_graph.specs.Listed.{is_marked}
use Rattle.vx_graph.specs.Reach.{Rows, leads}

-- one edge or more lead from a to b, each of them to a marked member
pub data ReachesWithin (marks : List Bool) (rows : Rows) : ℕ → ℕ → Type 0 where
  straight : {a b : ℕ} → leads rows a b ≡ true → is_marked marks b ≡ true → ReachesWithin marks rows a b
  onward : {a b c : ℕ} → leads rows a b ≡ true → is_marked marks b ≡ true → ReachesWithin marks rows b c → ReachesWithin marks rows a c

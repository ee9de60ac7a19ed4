use Rattle.std.proofs.Common.{◌≡◌, ◌<◌, ℕ, true, get_or}
use Rattle.cs_cong.specs.Merged.{representative}
use Rattle.cs_cong.specs.Joined.{all_same}
use Rattle.cs_cong.specs.Walks.{walk}
use Rattle.cs_cong.specs.Marked.{Marked}
use Rattle.cs_cong.specs.Needed.{AreMarked}
use Rattle.cs_cong.proofs.merges.Merges.mark_parts.Given as goal

abbrev pub invariant-loop-at : goal.invariant-loop-at
invariant-loop-at l = record {
  time : l.needs.time ≡ l.fn.needs.time;
  more : Marked l.time l.fn.needs.all l.needs.all;
  done : all_same (representative l.self.log.items l.time) l.xs l.ys ≡ true → (k : ℕ) → k < l.at → AreMarked l.needs.all (walk l.self.log.items l.time (get_or l.xs k 0) (get_or l.ys k 0));
}

use Rattle.std.proofs.Common.{◌≡◌, ℕ, ◌≤◌, false, length}
use Rattle.cs_cong.specs.Merged.{current}
use Rattle.cs_cong.specs.Walks.{walk}
use Rattle.cs_cong.specs.Marked.{is_marked}
use Rattle.cs_cong.specs.Needed.{AreMarked, AreBacked}
use Rattle.cs_cong.proofs.classes.Classes.needed.Given as goal

abbrev pub invariant-back : goal.invariant-back
invariant-back l = record {
  time : l.needs.time ≤ length l.self.merges.log.items;
  within : (k : ℕ) → length l.self.merges.log.items ≤ k → is_marked l.needs.all k ≡ false;
  backed : AreBacked l.self.terms.items l.self.merges.log.items l.needs.all l.needs.time;
  marked : current l.self.merges.log.items l.a ≡ current l.self.merges.log.items l.b → AreMarked l.needs.all (walk l.self.merges.log.items (length l.self.merges.log.items) l.a l.b);
}

abbrev pub decreases-back : goal.decreases-back
decreases-back l = l.needs.time

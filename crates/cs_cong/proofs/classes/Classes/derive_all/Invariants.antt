use Rattle.std.proofs.Common.{◌≡◌, ℕ, true, length}
use Rattle.cs_cong.specs.Explained.{IsDerivation}
use Rattle.cs_cong.specs.Marked.{is_marked}
use Rattle.cs_cong.specs.Needed.{AreKnownBut}
use Rattle.cs_cong.proofs.classes.Classes.derive_all.Given as goal

abbrev pub invariant-forth : goal.invariant-forth
invariant-forth l = record {
  fewer : (k : ℕ) → is_marked l.left k ≡ true → is_marked l.fn.found k ≡ true;
  sound : IsDerivation l.self.terms.items l.self.claims.items l.chain.claims.items l.chain.steps.items;
  known : AreKnownBut l.left l.self.merges.log.items l.self.claims.items l.fn.found l.chain.claims.items l.chain.steps.items;
}

abbrev pub decreases-forth : goal.decreases-forth
decreases-forth l = length l.left.keys

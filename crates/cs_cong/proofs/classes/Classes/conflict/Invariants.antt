use Rattle.cs_cong.specs.Joined.{AreKeptBelow}
use Rattle.cs_cong.proofs.classes.Classes.conflict.Given as goal

abbrev pub invariant-loop-at : goal.invariant-loop-at
invariant-loop-at l = AreKeptBelow l.self.terms.items l.self.claims.items l.at

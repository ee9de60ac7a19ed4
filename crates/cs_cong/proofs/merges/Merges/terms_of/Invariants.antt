use Rattle.std.proofs.Common.{◌≡◌, ◌∷◌, take}
use Rattle.cs_cong.specs.Needed.{ends}
use Rattle.cs_cong.proofs.merges.Merges.terms_of.Given as goal

abbrev pub invariant-loop-edge : goal.invariant-loop-edge
invariant-loop-edge l = l.terms.items ≡ l.from ∷ ends l.self.log.items (take l.edge-index l.edges)

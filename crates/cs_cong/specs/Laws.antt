-- What the classes and the walks say.
use Rattle.std.specs.Prelude.{◌≡◌, ℕ, ◌≤◌, List, length}
use Rattle.cs_cong.specs.declared.congruent.Applied.{Applied}
use Rattle.cs_cong.specs.declared.congruent.Claim.{Claim}
use Rattle.cs_cong.specs.declared.explain.Chain.{Chain}
use Rattle.cs_cong.specs.declared.merges.Merge.{Merge}
use Rattle.cs_cong.specs.Merged.{representative, current}
use Rattle.cs_cong.specs.Joined.{Joined, AreJustified}
use Rattle.cs_cong.specs.Stages.{IsStage}
use Rattle.cs_cong.specs.Walks.{walk, Leads}
use Rattle.cs_cong.specs.Explained.{Explains}

abbrev pub MergedAreJoined : Type 0
MergedAreJoined = (terms : List Applied) (claims : List Claim) (log : List Merge) → AreJustified terms claims log → (k : ℕ) → k ≤ length log → (a b : ℕ) → representative log k a ≡ representative log k b → Joined terms claims a b

abbrev pub JoinedAreMerged : Type 0
JoinedAreMerged = (terms : List Applied) (claims : List Claim) (log : List Merge) → IsStage terms claims log → (a b : ℕ) → Joined terms claims a b → current log a ≡ current log b

abbrev pub WalksLead : Type 0
WalksLead = (log : List Merge) (k a b : ℕ) → representative log k a ≡ representative log k b → Leads log k a (walk log k a b) b

abbrev pub ExplainedAreJoined : Type 0
ExplainedAreJoined = (terms : List Applied) (claims : List Claim) (a b : ℕ) (chain : Chain) → Explains terms claims a b chain → Joined terms claims a b

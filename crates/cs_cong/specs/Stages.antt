-- What was claimed, with the merges that stood before each claim.
use Rattle.std.specs.Prelude.{◌≡◌, ℕ, ◌≤◌, List, length, get_or, take}
use Rattle.cs_cong.specs.declared.congruent.Applied.{Applied}
use Rattle.cs_cong.specs.declared.congruent.Claim.{Claim}
use Rattle.cs_cong.specs.declared.merges.Merge.{Merge}
use Rattle.cs_cong.specs.Joined.{AreJustified, IsClosed, IsMet}

-- the merges are those that follow from the claims
pub record IsStage (terms : List Applied) (claims : List Claim) (log : List Merge) : Type 0 where
  pub justified : AreJustified terms claims log
  pub closed : IsClosed terms log
  pub met : IsMet claims log

-- how many merges there were before the claim of this number, or are now
abbrev pub cut : List ℕ → List Merge → ℕ → ℕ
cut marks log n = get_or marks n (length log)

-- of the first claims, whatever their number
pub record IsHistory (terms : List Applied) (claims : List Claim) (marks : List ℕ) (log : List Merge) : Type 0 where
  pub marked : length marks ≡ length claims
  pub ascends : (m n : ℕ) → m ≤ n → n ≤ length claims → cut marks log m ≤ cut marks log n
  pub within : (n : ℕ) → n ≤ length claims → cut marks log n ≤ length log
  pub stages : (n : ℕ) → n ≤ length claims → IsStage terms (take n claims) (take (cut marks log n) log)

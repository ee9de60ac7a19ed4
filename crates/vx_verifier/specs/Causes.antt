-- Why a member has no verdict of its own, and what leaves no such cause.
use Rattle.std.specs.Prelude.{◌≡◌, ◌⊎◌, ℕ, ◌<◌, Bool, true, false, List, [], ◌∷◌, ◌++◌}
use Rattle.vx_terms.specs.Interpretations.{Each}
use Rattle.vx_ends.specs.declared.piece.Piece.{Piece}
use Rattle.vx_ends.specs.declared.piece.Ending.{Ending}
use Rattle.vx_ends.specs.Causes.{Rose}
use Rattle.vx_dialogue.specs.Items.{IsGarbled, IsRefused}
use Rattle.vx_dialogue.specs.Stops.{Stops}
use Rattle.vx_report.specs.declared.run.Cause.{Cause}
use Rattle.vx_report.specs.declared.run.Cause.TheVariants as cause

-- The first expression got that answers none of the earlier commands sent is no lawful reply to the command that it answers. So much is kept of it.
abbrev pub IsUnlawful : List Piece → (kept : List ℕ) → Type 0
IsUnlawful pieces kept = Stops pieces (λ w bytes. IsGarbled w bytes kept) ⊎ Stops pieces (λ w bytes. IsRefused bytes kept)

-- the one link of a lane that was handed back has this property
abbrev pub LinkHas : List Ending → (Ending → Type 0) → Type 0
LinkHas links P = (ending : Ending) × (links ≡ ending ∷ []) × P ending

-- all links that were handed back since have this property
abbrev pub EachEnding : (before now : List Ending) → (Ending → Type 0) → Type 0
EachEnding before now P = (since : List Ending) → now ≡ before ++ since → Each P since

-- why a member has no verdict of its own, by the links of its own lane that were handed back, where the lane's child was lost before or not
abbrev pub HasCauseOf : (links : List Ending) (faults_then faults_now : ℕ) → (lost : Bool) → Cause → Type 0
HasCauseOf links faults_then faults_now lost cause.Pipe = (lost ≡ false) × LinkHas links (λ e. 0 < e.faults)
HasCauseOf links faults_then faults_now lost cause.Start = (lost ≡ false) × Rose faults_then faults_now
HasCauseOf links faults_then faults_now lost cause.Spent = lost ≡ true
HasCauseOf links faults_then faults_now lost (cause.Reply kept) = (lost ≡ false) × LinkHas links (λ e. IsUnlawful e.dialogue kept)

-- No count of faults rose: neither the spawner's, nor that of a link that was handed back since.
pub record NoCountRose (before now : List Ending) (faults_then faults_now : ℕ) : Type 0 where
  pub starts : Rose faults_then faults_now → ⊥
  pub links : EachEnding before now (λ e. e.faults ≡ 0)

-- each reply that was got is lawful
abbrev pub IsLawful : List Piece → Type 0
IsLawful pieces = (kept : List ℕ) → IsUnlawful pieces kept → ⊥

-- all links that were handed back since gave lawful replies alone
abbrev pub AllLawful : (before now : List Ending) → Type 0
AllLawful before now = EachEnding before now (λ e. IsLawful e.dialogue)

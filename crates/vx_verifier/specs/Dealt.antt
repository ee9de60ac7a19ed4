-- Which runs, links and starts are a lane's.
use Rattle.std.specs.Prelude.{◌≡◌, ⊤, ℕ, ◌+◌, ◌<◌, ◌%◌, ◌==◌, Bool, true, false, List, [], ◌∷◌, ◌++◌, if◌then◌else◌}
use Rattle.vx_terms.specs.Interpretations.{Each}
use Rattle.vx_ends.specs.declared.piece.Start.{Start}
use Rattle.vx_ends.specs.declared.piece.Ending.{Ending}
use Rattle.vx_report.specs.declared.run.MemberRun.{MemberRun}

-- run number i is in lane i modulo jobs
abbrev pub IsDealt : (jobs i : ℕ) → List MemberRun → Type 0
IsDealt jobs i [] = ⊤
IsDealt jobs i (r ∷ runs) = (r.lane ≡ i % jobs) × IsDealt jobs (i + 1) runs

-- the runs of a lane, in order
abbrev pub runs_in : ℕ → List MemberRun → List MemberRun
runs_in lane [] = []
runs_in lane (r ∷ runs) = if r.lane == lane then r ∷ runs_in lane runs else runs_in lane runs

-- the links of a lane, in the order in which they were handed back
abbrev pub links_in : ℕ → List Ending → List Ending
links_in lane [] = []
links_in lane (e ∷ ended) = if e.lane == lane then e ∷ links_in lane ended else links_in lane ended

-- the starts of a lane, in order
abbrev pub starts_in : ℕ → List Start → List Start
starts_in lane [] = []
starts_in lane (s ∷ starts) = if s.lane == lane then s ∷ starts_in lane starts else starts_in lane starts

-- one start in a lane, by this command, or none
abbrev pub started_where : Bool → (lane : ℕ) → (command : List (List ℕ)) → List Start
started_where true lane command = record { lane = lane; command = command } ∷ []
started_where false lane command = []

-- Since then each of so many lanes has started this command once, or not; which of them have is said of their numbers. No other lane has.
pub record Starts (jobs : ℕ) (command : List (List ℕ)) (before now : List Start) (Has : (lane : ℕ) → Bool → Type 0) : Type 0 where
  pub since : List Start
  pub is : now ≡ before ++ since
  pub within : Each (λ (s : Start). s.lane < jobs) since
  pub each : (lane : ℕ) → lane < jobs → (started : Bool) × (starts_in lane since ≡ started_where started lane command) × Has lane started

-- the links that were handed back stay so
pub record Handed (before now : List Ending) : Type 0 where
  pub more : List Ending
  pub is : now ≡ before ++ more

-- What is put of the whole run of a method.
use Rattle.std.specs.Prelude.{◌≡◌, ◌⊎◌, ℕ, List, [], ◌∷◌, ◌++◌, Option, Some, None, codes}
use Rattle.vx_ast.specs.declared.Place.{Place}
use Rattle.vx_ast.specs.Syntax.{Name, Program, Method, Block, method_named}
use Rattle.vx_tokens.specs.Text.{first_place}
use Rattle.vx_run.specs.Going.{Outcome, Ended, Stopped, Failed, Running, Wide, Unchosen}
use Rattle.vx_run.specs.Drawn.{drawn}
use Rattle.vx_report.specs.Reports.{place_text}
use Rattle.vx_report.specs.declared.status.Status.{Status}
use Rattle.vx_report.specs.declared.status.Status.TheVariants.{Done, NotVerified, Refused}
use Rattle.vx_commands.specs.Refusals.{line}
use Rattle.vx_commands.specs.Texts.{SaysRefused}
use Rattle.vx_commands.specs.Reports.{IsProgramOf}

-- so many steps a run has at most
abbrev pub most_steps : ℕ
most_steps = 100000

abbrev pub at_place : (front : List ℕ) → Place → List ℕ
at_place front at = (front ++ place_text at) ++ codes "\n"

-- the line of an outcome; by draws a choice is never missing
abbrev pub outcome_line : Outcome → List ℕ
outcome_line Ended = codes "ended\n"
outcome_line (Stopped at) = at_place (codes "stopped at ") at
outcome_line (Failed at) = at_place (codes "failed at ") at
outcome_line Running = codes "running after 100000 steps\n"
outcome_line (Wide at op a b) = at_place (codes "wide at ") at
outcome_line Unchosen = []

abbrev pub outcome_status : Outcome → Status
outcome_status Ended = Done
outcome_status (Stopped at) = Done
outcome_status (Failed at) = NotVerified
outcome_status Running = Done
outcome_status (Wide at op a b) = Done
outcome_status Unchosen = Done

-- what is said of an outcome
abbrev pub SaysOutcome : Outcome → Status → List ℕ → Type 0
SaysOutcome o s bytes = (s ≡ outcome_status o) × (bytes ≡ outcome_line o)

-- a method with a body runs, as the seed draws; one without has no run
abbrev pub SaysRunIn : Program → (seed : ℕ) → Method → Option Block → Status → List ℕ → Type 0
SaysRunIn p seed m (Some b) s bytes = SaysOutcome (drawn p m b seed most_steps) s bytes
SaysRunIn p seed m None s bytes = (s ≡ Refused) × (bytes ≡ line first_place (codes "E41") (codes "NoBody") [])

-- and so has what is no method
abbrev pub SaysRunOf : Program → (seed : ℕ) → Name → Option Method → Status → List ℕ → Type 0
SaysRunOf p seed x (Some m) s bytes = SaysRunIn p seed m m.body s bytes
SaysRunOf p seed x None s bytes = (s ≡ Refused) × (bytes ≡ line first_place (codes "E40") (codes "NoMethod") (x ∷ []))

-- what is said of the run of the method of this name, of the program that a text spells, or why there is none
abbrev pub SaysRun : (method : List ℕ) → (seed : ℕ) → (text : List ℕ) → Status → List ℕ → Type 0
SaysRun method seed text s bytes = SaysRefused text s bytes ⊎ ((p : Program) × IsProgramOf text p × SaysRunOf p seed method (method_named p method) s bytes)

-- What `run` promises.
use Rattle.std.specs.Prelude.{◌≡◌, ◌⊎◌, ⊤, ℕ, List, [], ◌++◌, Option, Some, None, IfSome, take, vec_items}
use Rattle.vx_words.specs.declared.order.Order.{Order}
use Rattle.vx_words.specs.declared.order.Order.TheVariants.{Verify, Check, Print, Gen, Work, Run}
use Rattle.vx_report.specs.declared.run.MemberRun.{MemberRun}
use Rattle.vx_report.specs.declared.status.Status.{Status}
use Rattle.vx_report.specs.declared.status.Status.TheVariants.{Done, NotVerified, Usage, Unread, Refused, Faulted, Unwritten, Want}
use Rattle.vx_report.specs.Statuses.{status_among}
use Rattle.vx_commands.specs.declared.output.Ended.{Ended}
use Rattle.vx_commands.specs.declared.output.Output.{Output}
use Rattle.vx_commands.specs.declared.saying.Saying.TheVariants as saying
use Rattle.vx_commands.specs.Outside.{Change, Texts, Taken, Spawners, Ends, IsUnchanged, Rest, HandBack, AsksOnly, HasFailedToRead, IsTooLong, HasPut, HasFailedToPut}
use Rattle.vx_commands.specs.Texts.{IsToldOf, IsGenerated, Says, SaysRefused, usage}
use Rattle.vx_commands.specs.WholeRuns.{SaysRun}
use Rattle.vx_commands.specs.Reports.{StartsBy, IsReportFor, IsWork, companion_alone}

-- ---- what is put

-- what is put for an order that has no report
abbrev pub IsTold : Option Order → Change Texts → Status → List ℕ → Type 0
IsTold None files s bytes = (s ≡ Usage) × (bytes ≡ usage)
IsTold (Some (Verify file solver jobs)) files s bytes = IsToldOf SaysRefused file files s bytes
IsTold (Some (Check file)) files s bytes = IsToldOf (Says saying.Typed) file files s bytes
IsTold (Some (Print file)) files s bytes = IsToldOf (Says saying.Canonical) file files s bytes
IsTold (Some (Gen methods)) files s bytes = IsGenerated methods s bytes
IsTold (Some (Work methods jobs)) files s bytes = ⊥
IsTold (Some (Run file method seed)) files s bytes = IsToldOf (SaysRun method seed) (Some file) files s bytes

-- a text that tells this, with its status, and no runs
pub record IsText (Told : Status → List ℕ → Type 0) (output : Output) : Type 0 where
  pub told : Told output.status (vec_items output.bytes)
  pub none : output.runs.items ≡ []

-- the report of the text of the file that the words name, or of what they say is to be generated
abbrev pub IsReportOf : Option Order → Change Texts → Spawners → Output → Type 0
IsReportOf (Some (Verify file solver jobs)) files s output = (text : List ℕ) × IfSome (files.before.holds file) (λ known. text ≡ known) × IsReportFor text solver jobs s output
IsReportOf (Some (Check file)) files s output = ⊥
IsReportOf (Some (Print file)) files s output = ⊥
IsReportOf (Some (Gen methods)) files s output = ⊥
IsReportOf (Some (Work methods jobs)) files s output = IsWork methods jobs s.companion output × IsUnchanged s.handed
IsReportOf (Some (Run file method seed)) files s output = ⊥
IsReportOf None files s output = ⊥

-- What is to be put for an order: a text by its cause, and then no spawner is asked for anything; or a report.
abbrev pub IsDue : Option Order → Change Texts → Spawners → Output → Type 0
IsDue order files s output = (IsText (IsTold order files) output × Rest s) ⊎ IsReportOf order files s output

-- What is put is this text, or a beginning of it where the sink failed.
abbrev pub IsPut : Change Taken → Status → List ℕ → Type 0
IsPut sink s text =
    IfSome sink.before.bytes (λ bytes. (sink.after.bytes ≡ Some (bytes ++ text)) ⊎ ((s ≡ Unwritten) × (n : ℕ) × (sink.after.bytes ≡ Some (bytes ++ take n text))))

-- The status is the one that is due, where no put failed; or the sink failed.
abbrev pub IsStatus : (due : Status) → Change Taken → Status → Type 0
IsStatus due sink s = ((s ≡ due) × HasPut sink) ⊎ ((s ≡ Unwritten) × HasFailedToPut sink)

-- it is put, and the end has its runs
pub record Puts (output : Output) (sink : Change Taken) (ended : Ended) : Type 0 where
  pub put : IsPut sink ended.status (vec_items output.bytes)
  pub status : IsStatus output.status sink ended.status
  pub runs : ended.runs.items ≡ output.runs.items

-- memory ran out, and nothing is put
pub record PutsNothing (sink : Change Taken) (ended : Ended) : Type 0 where
  pub status : ended.status ≡ Want
  pub put : sink.after.bytes ≡ sink.before.bytes
  pub none : ended.runs.items ≡ []

-- What becomes of an order: nothing is put where memory runs out; or what is due.
abbrev pub IsAnswer : Option Order → Ends → Ended → Type 0
IsAnswer order ends ended = PutsNothing ends.sink ended ⊎ ((output : Output) × IsDue order ends.files ends.spawners output × Puts output ends.sink ended)

-- ---- files

-- the file that the words name, where they name one: standard input has no name
abbrev pub file_of : Option Order → Option (Option (List ℕ))
file_of None = None
file_of (Some (Verify file solver jobs)) = Some file
file_of (Some (Check file)) = Some file
file_of (Some (Print file)) = Some file
file_of (Some (Gen methods)) = None
file_of (Some (Work methods jobs)) = None
file_of (Some (Run file method seed)) = Some (Some file)

-- at most this file is asked
abbrev pub AsksAtMost : Option (Option (List ℕ)) → Change Texts → Type 0
AsksAtMost None files = files.after.asked ≡ files.before.asked
AsksAtMost (Some file) files = AsksOnly file files

-- at most the file that the words name is asked
abbrev pub AsksFileOf : Option Order → Change Texts → Type 0
AsksFileOf order files = AsksAtMost (file_of order) files

-- a file that was to be read isn't: reading failed, or its text is too long
abbrev pub IsNotRead : Option (Option (List ℕ)) → Change Texts → Type 0
IsNotRead None files = ⊥
IsNotRead (Some file) files = HasFailedToRead files ⊎ IsTooLong file files

-- so it is with the file that the words name
abbrev pub IsUnread : Option Order → Change Texts → Type 0
IsUnread order files = IsNotRead (file_of order) files

-- ---- spawners

-- the solver that the words name, where they ask one, and in how many lanes
abbrev pub solver_of : Option Order → Option (List (List ℕ) × ℕ)
solver_of None = None
solver_of (Some (Verify file solver jobs)) = Some (solver, jobs)
solver_of (Some (Check file)) = None
solver_of (Some (Print file)) = None
solver_of (Some (Gen methods)) = None
solver_of (Some (Work methods jobs)) = Some (companion_alone, jobs)
solver_of (Some (Run file method seed)) = None

-- it is started at most once in each lane, and nothing is where there is none
abbrev pub StartsAtMost : Option (List (List ℕ) × ℕ) → Spawners → Type 0
StartsAtMost None s = Rest s
StartsAtMost (Some solver) s = StartsBy solver.0 solver.1 s

-- at most the solver that the words name is started
abbrev pub StartsSolverOf : Option Order → Spawners → Type 0
StartsSolverOf order s = StartsAtMost (solver_of order) s

-- ---- all of it

-- a whole run was asked for
abbrev pub AsksRun : Option Order → Type 0
AsksRun (Some (Run file method seed)) = ⊤
AsksRun (Some (Verify file solver jobs)) = ⊥
AsksRun (Some (Check file)) = ⊥
AsksRun (Some (Print file)) = ⊥
AsksRun (Some (Gen methods)) = ⊥
AsksRun (Some (Work methods jobs)) = ⊥
AsksRun None = ⊥

-- What a status says. One with a report is that of its runs; the others have no runs, and each its cause. A whole run that failed has the status of a report in which a member isn't verified.
abbrev pub IsStatusOf : Option Order → Change Texts → Change Taken → List MemberRun → Status → Type 0
IsStatusOf order files sink runs Done = status_among runs ≡ Done
IsStatusOf order files sink runs NotVerified = (status_among runs ≡ NotVerified) ⊎ (AsksRun order × (runs ≡ []))
IsStatusOf order files sink runs Faulted = status_among runs ≡ Faulted
IsStatusOf order files sink runs Unwritten = HasFailedToPut sink
IsStatusOf order files sink runs Usage = (order ≡ None) × (runs ≡ [])
IsStatusOf order files sink runs Unread = IsUnread order files × (runs ≡ [])
IsStatusOf order files sink runs Refused = runs ≡ []
IsStatusOf order files sink runs Want = runs ≡ []

-- The promise of `run` for what the words mean, by what all ends show.
pub record Promise (order : Option Order) (ends : Ends) (ended : Ended) : Type 0 where
  -- what is put is the text that is due, or the report
  pub answered : IsAnswer order ends ended
  -- no file is asked but the one that the words name
  pub asked : AsksFileOf order ends.files
  -- no solver is started but the one that they name
  pub starts : StartsSolverOf order ends.spawners
  -- the status has its cause
  pub status : IsStatusOf order ends.files ends.sink ended.runs.items ended.status
  -- words that mean nothing have a status of their own
  pub usage : order ≡ None → (ended.status ≡ Usage) ⊎ (ended.status ≡ Unwritten) ⊎ (ended.status ≡ Want)
  -- all links that were started are handed back, also where memory ran out
  pub back : HandBack ends.spawners

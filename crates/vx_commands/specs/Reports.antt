-- What a report says of a program.
use Rattle.std.specs.Prelude.{◌≡◌, ⊤, ℕ, ◌<◌, ◌≤◌, Bool, true, false, List, [], ◌∷◌, Some, codes, slice_get, vec_items}
use Rattle.std.specs.Str.{bytes_eq}
use Rattle.vx_ast.specs.declared.Place.{Place}
use Rattle.vx_ast.specs.Syntax.{Program, Member, Method, IsMethod}
use Rattle.vx_ast.specs.Written as written
use Rattle.vx_ast.specs.Resolve as resolve
use Rattle.vx_parser.specs.Spelling.{Spells}
use Rattle.vx_terms.specs.Interpretations.{Each}
use Rattle.vx_sexp.specs.First.{deepest}
use Rattle.vx_smt_meaning.specs.Commands.{Command, Assert}
use Rattle.vx_smt_meaning.specs.Words.{command_tokens}
use Rattle.vx_smt_meaning.specs.declared.reply.Reply.TheVariants.{Sat}
use Rattle.vx_rules.specs.declared.code.Code.{Code}
use Rattle.vx_meaning.specs.Fails.{MethodFails}
use Rattle.vx_real.specs.Law.{IsInFieldFragment}
use Rattle.vx_runs.specs.Law.{NoWholeRunFails}
use Rattle.vx_report.specs.declared.run.MemberRun.{MemberRun}
use Rattle.vx_report.specs.declared.run.Verdict.TheVariants as verdict
use Rattle.vx_report.specs.Reports.{report_of, total_of}
use Rattle.vx_report.specs.Statuses.{status_among}
use Rattle.vx_typing.specs.Programs.{IsTyped}
use Rattle.vx_gen.specs.Generated.{generated}
use Rattle.vx_companion.specs.Companion.{AllByCompanion}
use Rattle.vx_verifier.specs.Dealt.{Starts, runs_in}
use Rattle.vx_verifier.specs.Headline.{IsWhole, Headline, HasNoFault, NeverFails, members_of, some_ask, script_of}
use Rattle.vx_commands.specs.declared.output.Output.{Output}
use Rattle.vx_commands.specs.declared.reports.Telling.{Telling}
use Rattle.vx_commands.specs.declared.reports.Telling.TheVariants.{Lines, Totals}
use Rattle.vx_commands.specs.Outside.{Change, Children, Spawners, IsUnchanged, StartsOnly}

-- the program that a text spells, which is typed, with its names settled; it is typed as a whole then
pub record IsProgramOf (text : List ℕ) (p : Program) : Type 0 where
  pub written : written.Program
  pub spelled : Spells text written
  pub typed : IsTyped written
  pub settled : p ≡ resolve.program written
  pub whole : IsWhole p

-- the text of a report: each member's line and the totals, or the totals alone
abbrev pub text_of : Telling → Program → List MemberRun → List ℕ
text_of Lines p runs = report_of p runs
text_of Totals p runs = total_of runs

-- What a report says of a program that was verified in so many lanes, by what the spawner that was asked shows: the headline, exactly the report's bytes, and the
-- status of the runs.
pub record IsReport (telling : Telling) (p : Program) (jobs : ℕ) (command : List (List ℕ)) (spawner : Change Children) (output : Output) : Type 0 where
  pub headline : Headline p jobs spawner.before.ended spawner.after.ended spawner.before.faults spawner.after.faults output.runs.items
  pub text : vec_items output.bytes ≡ text_of telling p output.runs.items
  pub status : output.status ≡ status_among output.runs.items
  -- in a lane the command is started once where one of its members has a question, and else never
  pub started : Starts jobs command spawner.before.starts spawner.after.starts (λ lane started. started ≡ some_ask p (members_of (runs_in lane output.runs.items)))

-- a member that is verified never fails
abbrev pub AllNeverFail : Program → List MemberRun → Type 0
AllNeverFail p runs = Each (λ (r : MemberRun). r.verdict ≡ verdict.Verified → NeverFails p r.member.0) runs

-- A failure that is told by a sat is one of a run, for a method that leads to members with fields, loops and calls alone.
abbrev pub FailuresAreReal : Program → List MemberRun → Type 0
FailuresAreReal p runs = Each (λ (r : MemberRun). (at : Place) (c : Code) (m : Member) (f : Method) → r.verdict ≡ verdict.Failed at c Sat → slice_get p r.member.0 ≡ Some m → m.kind ≡ IsMethod f
    → IsInFieldFragment p m.name → ∥ MethodFails p f at ∥₁) runs

-- an assertion has at most 4096 lists within one another
abbrev pub IsShallow : Command → Type 0
IsShallow (Assert t) = deepest 0 (command_tokens (Assert t)) ≤ 4096
IsShallow c = ⊤

-- A report by the companion. Whatever it answered, no member that is verified fails, and a failure by a sat is one of a run; and where no assertion that it was sent is too deep, no member is faulted.
pub record IsCompanionReport (telling : Telling) (p : Program) (jobs : ℕ) (command : List (List ℕ)) (spawner : Change Children) (output : Output) : Type 0 where
  pub report : IsReport telling p jobs command spawner output
  pub sound : AllNeverFail p output.runs.items
  -- where all members are verified no whole run of a method fails
  pub whole_runs : Each (λ (r : MemberRun). r.verdict ≡ verdict.Verified) output.runs.items → NoWholeRunFails p
  pub real : FailuresAreReal p output.runs.items
  pub no_fault : ((lane : ℕ) → lane < jobs → Each IsShallow (script_of p (report.headline.turns lane))) → HasNoFault output.runs.items
  -- each command had the reply that the companion has for it, and each undecided one has its cause
  pub replies : AllByCompanion spawner.after.ended spawner.after.causes

-- ---- by whom

-- the name of the companion stands alone
abbrev pub is_companion : List (List ℕ) → Bool
is_companion [] = false
is_companion (part ∷ []) = bytes_eq part (codes "builtin")
is_companion (part ∷ other ∷ parts) = false

-- the name of the companion, as a command
abbrev pub companion_alone : List (List ℕ)
companion_alone = codes "builtin" ∷ []

-- what holds of the companion's spawner, or of the one handed in
abbrev pub ByWhom : Bool → Type 0 → Type 0 → Type 0
ByWhom true Companion Handed = Companion
ByWhom false Companion Handed = Handed

-- The spawner that the solver names starts it once at most in each of so many lanes; the other shows what it showed.
abbrev pub StartsBy : (solver : List (List ℕ)) → (jobs : ℕ) → Spawners → Type 0
StartsBy solver jobs s =
    ByWhom (is_companion solver) (StartsOnly jobs solver s.companion × IsUnchanged s.handed) (IsUnchanged s.companion × StartsOnly jobs solver s.handed)

-- by the spawner that the solver names
abbrev pub IsReportBy : (solver : List (List ℕ)) → (jobs : ℕ) → Program → Spawners → Output → Type 0
IsReportBy solver jobs p s output = ByWhom (is_companion solver) (IsCompanionReport Lines p jobs solver s.companion output) (IsReport Lines p jobs solver s.handed output)

-- the program of a text is reported
abbrev pub IsReportFor : (text : List ℕ) → (solver : List (List ℕ)) → (jobs : ℕ) → Spawners → Output → Type 0
IsReportFor text solver jobs s output = (p : Program) × IsProgramOf text p × IsReportBy solver jobs p s output

-- the companion's report of the program that so many generated methods spell; only the totals are told
abbrev pub IsWork : (methods jobs : ℕ) → (companion : Change Children) → Output → Type 0
IsWork methods jobs companion output = (p : Program) × IsProgramOf (generated methods) p × IsCompanionReport Totals p jobs companion_alone companion output

-- What holds of a lane between two events.
use Rattle.std.specs.Prelude.{◌≡◌, ℕ, ◌+◌, ◌<◌, ◌≤◌, ⊤, Bool, true, false, IsTrue, List, [], ◌∷◌, ◌++◌, map}
use Rattle.vx_terms.specs.Terms.{Term}
use Rattle.vx_terms.specs.Interpretations.{Each}
use Rattle.vx_segments.specs.Segments.{Entry, terms}
use Rattle.vx_smt_meaning.specs.Commands.{Declared}
use Rattle.vx_smt_meaning.specs.Dialogues.{Check}
use Rattle.vx_smt_meaning.specs.Names.{AreCommands}
use Rattle.vx_ends.specs.declared.piece.Piece.{Piece}
use Rattle.vx_ends.specs.declared.piece.Start.{Start}
use Rattle.vx_ends.specs.declared.piece.Ending.{Ending}
use Rattle.vx_rules.specs.Trees.{Question, Answered}
use Rattle.vx_machine.specs.declared.machine.Outcome.{Outcome}
use Rattle.vx_machine.specs.declared.machine.Outcome.TheVariants as outcome
use Rattle.vx_dialogue.specs.Turns.{Turn, Asks, Posts}
use Rattle.vx_dialogue.specs.Scripts.{Outside, ScopedTurn, plain, said_by, scope_from, script}
use Rattle.vx_dialogue.specs.Scripts as scripts
use Rattle.vx_dialogue.specs.Bases as bases
use Rattle.vx_dialogue.specs.Dialogue.{IsFree, IsAsked, has_failed, link_of, scope_of, Stands, Awaits}
use Rattle.vx_dialogue.specs.Steady.{IsSteady}
use Rattle.vx_dialogue.specs.declared.talk.Talk.{Talk}
use Rattle.vx_dialogue.specs.declared.talk.Talk.TheVariants as talk
use Rattle.vx_live.specs.Functions.{function_symbols}
use Rattle.vx_pool.specs.Events.{Event, standing}
use Rattle.vx_pool.specs.Events as event
use Rattle.vx_pool.specs.declared.stop.Stop.{Stop}
use Rattle.vx_pool.specs.declared.stop.Stop.TheVariants as stop
use Rattle.vx_report.specs.declared.run.Cause.{Cause}
use Rattle.vx_report.specs.declared.run.Cause.TheVariants as cause
use Rattle.vx_report.specs.declared.run.Verdict.{Verdict}
use Rattle.vx_report.specs.declared.run.Verdict.TheVariants as verdict
use Rattle.vx_verifier.specs.declared.line.Child.{Child}
use Rattle.vx_verifier.specs.declared.line.Child.TheVariants.{NotStarted, Talking, Lost}
use Rattle.vx_verifier.specs.Sequences.{AreChecksOf}
use Rattle.vx_verifier.specs.Causes.{HasCauseOf}
use Rattle.vx_report.specs.declared.run.MemberRun.{MemberRun}
use Rattle.vx_smt_meaning.specs.declared.reply.Reply.{Reply}
use Rattle.vx_verifier.specs.Headline.{IsRecorded, left_turn, members_of}
use Rattle.vx_verifier.specs.Lines.{lines}
use Rattle.vx_verifier.specs.Members.{AreRuns, every, runs_events}
use Rattle.vx_verifier.specs.Dealt.{links_in, starts_in, started_where}
use Rattle.vx_verifier.specs.Outsets.{Hub, Outset}

-- ---- what the events of a lane say

-- the question was asked, unless the child was lost before
abbrev pub tried_turn : (lost : Bool) → Question → List Turn
tried_turn true q = []
tried_turn false q = Posts q.path q.condition ∷ []

-- what the lane's child is asked in these events, where it was lost before or not
abbrev pub turns_in : (lost : Bool) → List (Event Cause) → List Turn
turns_in lost [] = []
turns_in lost (event.Answered q r ∷ events) = Asks q.path q.condition ∷ turns_in lost events
turns_in lost (event.Lost q x ∷ events) = tried_turn lost q ++ turns_in true events
turns_in lost (event.Left ∷ events) = left_turn lost ++ turns_in lost events

-- the questions that were answered
abbrev pub answered_in : List (Event Cause) → List Answered
answered_in [] = []
answered_in (event.Answered q r ∷ events) = record { question = q; reply = r } ∷ answered_in events
answered_in (event.Lost q x ∷ events) = answered_in events
answered_in (event.Left ∷ events) = answered_in events

-- a question was lost
abbrev pub has_lost : List (Event Cause) → Bool
has_lost [] = false
has_lost (event.Answered q r ∷ events) = has_lost events
has_lost (event.Lost q x ∷ events) = true
has_lost (event.Left ∷ events) = has_lost events

-- something was asked
abbrev pub has_asked : List (Event Cause) → Bool
has_asked [] = false
has_asked (event.Answered q r ∷ events) = true
has_asked (event.Lost q x ∷ events) = true
has_asked (event.Left ∷ events) = has_asked events

-- Each loss has its cause by these links of the lane, and behind the first one nothing is answered.
abbrev pub AreCaused : (links : List Ending) (faults_then faults_now : ℕ) → (lost : Bool) → List (Event Cause) → Type 0
AreCaused links faults_then faults_now lost [] = ⊤
AreCaused links faults_then faults_now lost (event.Answered q r ∷ events) = (lost ≡ false) × AreCaused links faults_then faults_now lost events
AreCaused links faults_then faults_now lost (event.Lost q x ∷ events) = HasCauseOf links faults_then faults_now lost x × AreCaused links faults_then faults_now true events
AreCaused links faults_then faults_now lost (event.Left ∷ events) = AreCaused links faults_then faults_now lost events

-- ---- a child

-- how many links are out for a child
abbrev pub links_out : {L : Type 0} → Child L → ℕ
links_out (Talking d) = 1
links_out NotStarted = 0
links_out Lost = 0

abbrev pub is_lost : {L : Type 0} → Child L → Bool
is_lost Lost = true
is_lost (Talking d) = false
is_lost NotStarted = false

-- it was started, or that was tried
abbrev pub is_started : {L : Type 0} → Child L → Bool
is_started NotStarted = false
is_started (Talking d) = true
is_started Lost = true

-- a child that talks has no open question and no earlier fault
abbrev pub IsReady : {L : Type 0} → Child L → Type 0
IsReady (Talking d) = IsFree d × (has_failed d ≡ false)
IsReady NotStarted = ⊤
IsReady Lost = ⊤

-- the path whose levels are open at a child
abbrev pub standing_of : {L : Type 0} → Child L → List Term
standing_of (Talking d) = terms (bases.standing (scope_of d))
standing_of NotStarted = []
standing_of Lost = []

-- the link of a child that talks is steady and has not failed
abbrev pub IsSteadyChild : {L : Type 0} → (steady : L → Bool) → (faults : L → ℕ) → Child L → Type 0
IsSteadyChild steady faults (Talking d) = IsSteady steady faults (link_of d)
IsSteadyChild steady faults NotStarted = ⊤
IsSteadyChild steady faults Lost = ⊤

-- These turns say nothing, as long as no child is started.
pub record AreSilent (turns : List ScopedTurn) : Type 0 where
  pub none : said_by Outside turns ≡ []
  pub outside : scope_from Outside turns ≡ Outside

-- These are the turns and the checks of the lane's child so far, which is told these symbols of functions first, with the links of the lane that were handed back. The names in what was said
-- to a child that talks are spelled.
abbrev pub HearsScoped : {L : Type 0} → (L → List Piece) → (functions : List Declared) → (links : List Ending) → Child L → List ScopedTurn → List Check → Type 0
HearsScoped dialogue functions links NotStarted turns checks = (links ≡ []) × (checks ≡ []) × AreSilent turns
HearsScoped dialogue functions links (Talking d) turns checks = (links ≡ []) × Stands dialogue false functions turns d checks × AreCommands (script false functions turns)
HearsScoped dialogue functions links Lost turns checks = IsRecorded functions true links turns checks

-- so it is where the paths of these turns have some numbers of segments
abbrev pub Hears : {L : Type 0} → (L → List Piece) → (functions : List Declared) → (links : List Ending) → Child L → List Turn → List Check → Type 0
Hears dialogue functions links child turns checks = (scoped : List ScopedTurn) × (map plain scoped ≡ turns) × HearsScoped dialogue functions links child scoped checks

-- and behind them the reply to this question is awaited
abbrev pub AwaitsScoped : {L : Type 0} → (L → List Piece) → (functions : List Declared) → (links : List Ending) → Child L → List ScopedTurn → List Check → Question → Type 0
AwaitsScoped dialogue functions links (Talking d) turns checks q =
    (links ≡ []) × (path : List Entry) × (terms path ≡ q.path) × Awaits dialogue false functions turns path q.condition d checks
    × AreCommands (script false functions (turns ++ scripts.Posts path q.condition ∷ [])) × IsAsked d × (has_failed d ≡ false)
AwaitsScoped dialogue functions links NotStarted turns checks q = ⊥
AwaitsScoped dialogue functions links Lost turns checks q = ⊥

-- the links that were handed back tell of these turns and checks, where the paths have some numbers of segments
abbrev pub Records : (functions : List Declared) → (failed : Bool) → (links : List Ending) → List Turn → List Check → Type 0
Records functions failed links turns checks = (scoped : List ScopedTurn) × (map plain scoped ≡ turns) × IsRecorded functions failed links scoped checks

-- ---- a lane

-- No count has risen so far: the spawner is steady and its count the same, no link of this lane that was handed back has failed, nor has the child's.
pub record IsCalm {L : Type 0} (steady_link : L → Bool) (faults_of : L → ℕ) (o : Outset) (lane : ℕ) (since : List Ending) (h : Hub) (child : Child L) : Type 0 where
  pub spawner : IsTrue h.steady
  pub starts : h.faults ≡ o.first.faults
  pub links_are : Each (λ (e : Ending). e.faults ≡ 0) (links_in lane since)
  pub child_is : IsSteadyChild steady_link faults_of child

-- A lane's child over its spawner, whatever is open, and also where memory ran out: the link of a child that talks is out, and no other of its lane; the command was started once, or not; and over
-- a steady spawner no count has risen.
pub record IsHeld {L : Type 0} (steady_link : L → Bool) (faults_of : L → ℕ) (o : Outset) (lane : ℕ) (command : List (List ℕ)) (functions : List Declared) (child : Child L) (h : Hub) : Type 0 where
  pub within : lane < o.jobs
  pub command_is : command ≡ o.command
  pub functions_are : functions ≡ function_symbols o.program
  pub owed : h.owed lane ≡ o.first.owed lane + links_out child
  pub since : List Ending
  pub ended : h.ended ≡ o.first.ended ++ since
  pub starts : List Start
  pub started : h.starts ≡ o.first.starts ++ starts
  pub once : starts_in lane starts ≡ started_where (is_started child) lane o.command
  pub faults : o.first.faults ≤ h.faults
  pub calm : IsTrue o.first.steady → IsCalm steady_link faults_of o lane since h child

-- No question is open: these events are what the lane's child was asked and answered, and what the links of the lane tell that were handed back.
pub record HearsOf {L : Type 0} (dialogue : L → List Piece) (o : Outset) (lane : ℕ) (child : Child L) (h : Hub) (events : List (Event Cause)) : Type 0 where
  pub since : List Ending
  pub ended : h.ended ≡ o.first.ended ++ since
  pub checks : List Check
  pub answered : AreChecksOf (answered_in events) checks
  pub heard : Hears dialogue (function_symbols o.program) (links_in lane since) child (turns_in false events) checks
  pub caused : AreCaused (links_in lane since) o.first.faults h.faults false events
  pub ready : IsReady child
  pub lost : is_lost child ≡ has_lost events
  pub stands : standing_of child ≡ standing events

-- and a child was started, or that was tried, exactly where something was asked
pub record TellsOf {L : Type 0} (dialogue : L → List Piece) (o : Outset) (lane : ℕ) (child : Child L) (h : Hub) (events : List (Event Cause)) : Type 0 where
  pub heard_of : HearsOf dialogue o lane child h events
  pub started : is_started child ≡ has_asked events

-- The same where this question is open behind the events.
pub record AsksOf {L : Type 0} (dialogue : L → List Piece) (o : Outset) (lane : ℕ) (child : Child L) (h : Hub) (events : List (Event Cause)) (q : Question) : Type 0 where
  pub since : List Ending
  pub ended : h.ended ≡ o.first.ended ++ since
  pub checks : List Check
  pub answered : AreChecksOf (answered_in events) checks
  pub turns : List ScopedTurn
  pub said : map plain turns ≡ turns_in false events
  pub awaits : AwaitsScoped dialogue (function_symbols o.program) (links_in lane since) child turns checks q
  pub caused : AreCaused (links_in lane since) o.first.faults h.faults false events
  pub lost : has_lost events ≡ false

-- The lane's link is handed back, if there was one: the lane owes what it owed, the command was started once, or not, and over a steady spawner no count has risen.
pub record IsBack (o : Outset) (lane : ℕ) (h : Hub) : Type 0 where
  pub owed : h.owed lane ≡ o.first.owed lane
  pub since : List Ending
  pub ended : h.ended ≡ o.first.ended ++ since
  pub starts : List Start
  pub started : h.starts ≡ o.first.starts ++ starts
  pub once : (tried : Bool) × (starts_in lane starts ≡ started_where tried lane o.command)
  pub calm : IsTrue o.first.steady → (h.faults ≡ o.first.faults) × Each (λ (e : Ending). e.faults ≡ 0) (links_in lane since)

-- And the links of the lane that were handed back tell these events.
pub record IsToldOf (o : Outset) (lane : ℕ) (h : Hub) (events : List (Event Cause)) : Type 0 where
  pub since : List Ending
  pub ended : h.ended ≡ o.first.ended ++ since
  pub starts : List Start
  pub started : h.starts ≡ o.first.starts ++ starts
  pub once : starts_in lane starts ≡ started_where (has_asked events) lane o.command
  pub checks : List Check
  pub answered : AreChecksOf (answered_in events) checks
  pub recorded : Records (function_symbols o.program) (has_lost events) (links_in lane since) (turns_in false events) checks
  pub caused : AreCaused (links_in lane since) o.first.faults h.faults false events

-- ---- all lanes

-- What is so of each lane that is handed back, if no want of memory came between: the events that its links tell are those of these runs, and a reply to each of their checks.
pub record IsOver (o : Outset) (h : Hub) (lane : ℕ) (runs : List MemberRun) : Type 0 where
  pub replies : List Reply
  pub runs_are : AreRuns o.program lane 0 runs replies
  pub told : IsToldOf o lane h (runs_events o.program runs replies)
  pub members : members_of runs ≡ every o.jobs lane (lines o.program)

-- ---- answers

abbrev pub stop_of : Talk → Stop Cause
stop_of talk.Pipe = stop.Fault cause.Pipe
stop_of (talk.Garbled kept) = stop.Fault (cause.Reply kept)
stop_of (talk.Refused kept) = stop.Fault (cause.Reply kept)
stop_of talk.Want = stop.Want
stop_of talk.Closed = stop.Fault cause.Spent

abbrev pub verdict_of : Outcome → Verdict
verdict_of outcome.Passed = verdict.Verified
verdict_of (outcome.Failed place c r) = verdict.Failed place c r
verdict_of (outcome.Limit n) = verdict.Limit

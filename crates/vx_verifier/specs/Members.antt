-- What happens in a lane while its members are executed, by their runs and the replies to their checks.
use Rattle.std.specs.Prelude.{◌≡◌, ⊤, ℕ, zero, suc, ◌+◌, ◌-◌, ◌*◌, ◌<◌, ◌≤◌, Bool, true, false, List, [], ◌∷◌, ◌++◌, Option, Some, None, length, map, take, drop}
use Rattle.vx_ast.specs.Syntax.{Program}
use Rattle.vx_smt_meaning.specs.declared.reply.Reply.{Reply}
use Rattle.vx_rules.specs.Trees.{Question, Answered, Ending as Ends, Passed, Failed, Open, walk}
use Rattle.vx_stack.specs.Stack.{query}
use Rattle.vx_machine.specs.Runs.{Follows, EachAnswered, awaits, given, member_tree, option_list}
use Rattle.vx_machine.specs.declared.machine.Machine.{Machine}
use Rattle.vx_machine.specs.declared.machine.Phase.{Phase}
use Rattle.vx_machine.specs.declared.machine.Phase.TheVariants as phase'
use Rattle.vx_pool.specs.Events.{Event, GoesOn, with_answer, with_leaving, question_in, is_end, IfQuestion}
use Rattle.vx_pool.specs.declared.next.Next.{Next}
use Rattle.vx_pool.specs.Events as event
use Rattle.vx_report.specs.declared.run.Cause.{Cause}
use Rattle.vx_report.specs.declared.run.Verdict.{Verdict}
use Rattle.vx_report.specs.declared.run.Verdict.TheVariants as verdict'
use Rattle.vx_report.specs.declared.run.MemberRun.{MemberRun}
use Rattle.vx_report.specs.Reports.{is_resting}
use Rattle.vx_verifier.specs.declared.members.Stage.{Stage}
use Rattle.vx_verifier.specs.declared.members.Stage.TheVariants as stage'
use Rattle.vx_verifier.specs.Headline.{IsVerdictOf, members_of}
use Rattle.vx_verifier.specs.Lines.{lines, lines_from}
use Rattle.vx_verifier.specs.Steady.{IsSpelled}

-- the questions that a walk answered
abbrev pub answers_of : List Answered → List (Event Cause)
answers_of [] = []
answers_of (a ∷ as') = event.Answered a.question a.reply ∷ answers_of as'

-- the open question is lost
abbrev pub loss_at : Ends → Cause → List (Event Cause)
loss_at (Open q) cause = event.Lost q cause ∷ []
loss_at Passed cause = []
loss_at (Failed place c r) cause = []

-- how a member is over: its open question is lost, or it is left
abbrev pub over_by : Ends → Verdict → List (Event Cause)
over_by ending (verdict'.Fault cause) = loss_at ending cause
over_by ending verdict'.Verified = event.Left ∷ []
over_by ending (verdict'.Failed place c r) = event.Left ∷ []
over_by ending (verdict'.Rests m) = event.Left ∷ []
over_by ending verdict'.Limit = event.Left ∷ []

-- what happens in a run, with these replies to its checks
abbrev pub run_events : Program → MemberRun → List Reply → List (Event Cause)
run_events p r own = answers_of (walk (member_tree p r.member.0) own).answered ++ over_by (walk (member_tree p r.member.0) own).ending r.verdict

-- and in several, whose replies follow one another
abbrev pub runs_events : Program → List MemberRun → List Reply → List (Event Cause)
runs_events p [] replies = []
runs_events p (r ∷ runs) replies = run_events p r (take r.checks replies) ++ runs_events p runs (drop r.checks replies)

-- the question that is open
abbrev pub open_in : Phase → Option Question
open_in (phase'.Asked q) = Some (query q)
open_in phase = None

abbrev pub asked_at : Stage → Option Question
asked_at (stage'.Asked m) = open_in m.phase
asked_at stage'.Between = None
asked_at stage'.Ended = None
asked_at stage'.Spent = None

abbrev pub is_ended : Stage → Bool
is_ended stage'.Ended = true
is_ended (stage'.Asked m) = false
is_ended stage'.Between = false
is_ended stage'.Spent = false

-- what happened in the member that is under way
abbrev pub so_far : Program → Stage → List (Event Cause)
so_far p (stage'.Asked m) = answers_of (walk (member_tree p m.member.0) (given m)).answered
so_far p stage'.Between = []
so_far p stage'.Ended = []
so_far p stage'.Spent = []

-- A run of this lane, with the replies to its checks, of which the first has this number: its verdict is that of the walk, whatever the cause of a fault.
pub record IsRun (p : Program) (lane first : ℕ) (r : MemberRun) (own : List Reply) : Type 0 where
  pub own_lane : r.lane ≡ lane
  pub child : r.child ≡ 0
  pub first_is : r.first ≡ first
  pub count : length own ≡ r.checks
  pub few : r.checks ≤ 100000
  pub answered : EachAnswered (walk (member_tree p r.member.0) own) own
  pub verdict : IsVerdictOf (λ cause. ⊤) (walk (member_tree p r.member.0) own).ending r.checks r.verdict
  pub alone : is_resting r.verdict ≡ false

abbrev pub AreRuns : Program → (lane first : ℕ) → List MemberRun → List Reply → Type 0
AreRuns p lane first [] replies = replies ≡ []
AreRuns p lane first (r ∷ runs) replies = IsRun p lane first r (take r.checks replies) × AreRuns p lane (first + r.checks) runs (drop r.checks replies)

-- of a list the part behind the first `skip` parts, and from then on each so many parts further on
abbrev pub every : (jobs skip : ℕ) → List ℕ → List ℕ
every jobs skip [] = []
every jobs zero (n ∷ ns) = n ∷ every jobs (jobs - 1) ns
every jobs (suc skip) (n ∷ ns) = every jobs skip ns

-- the number of the member that is under way
abbrev pub under_way : Stage → List ℕ
under_way (stage'.Asked m) = m.member.0 ∷ []
under_way stage'.Between = []
under_way stage'.Ended = []
under_way stage'.Spent = []

-- how often a worker can still be called at this stage, with so many members to come
abbrev pub left_at : (members : ℕ) → Stage → ℕ
left_at members (stage'.Asked m) = 100003 * members + 1 + (100001 - length m.replies.items)
left_at members stage'.Between = 100003 * members + 1
left_at members stage'.Ended = 0
left_at members stage'.Spent = 0

-- the walk's end is the question that is open, if one is
abbrev pub IsOpenAt : Option Question → Ends → Type 0
IsOpenAt (Some q) ending = ending ≡ Open q
IsOpenAt None ending = ⊤

-- the machine of a member follows the walk, within the limit of checks
pub record IsMember (p : Program) (m : Machine) : Type 0 where
  pub follows : Follows p m
  pub limit : m.limit ≡ 100000
  pub within : m.member.0 < length p
  pub few : length m.replies.items < 100000
  pub answered : EachAnswered (walk (member_tree p m.member.0) (given m)) (given m)
  pub due : IsOpenAt (open_in m.phase) (walk (member_tree p m.member.0) (given m)).ending

-- the member that is under way has a question open
abbrev pub IsAtStage : Program → Stage → Type 0
IsAtStage p (stage'.Asked m) = IsMember p m × (awaits m.phase ≡ true)
IsAtStage p stage'.Between = ⊤
IsAtStage p stage'.Ended = ⊤
IsAtStage p stage'.Spent = ⊤

abbrev pub is_spent : Stage → Bool
is_spent stage'.Spent = true
is_spent stage'.Between = false
is_spent (stage'.Asked m) = false
is_spent stage'.Ended = false

-- A worker of this lane, one of so many: its runs so far, and the members that are still to come.
pub record IsWorking (p : Program) (jobs lane : ℕ) (next skip : ℕ) (runs : List MemberRun) (replies : List Reply) (stage : Stage) : Type 0 where
  pub some : 1 ≤ jobs
  pub at : IsAtStage p stage
  pub runs_are : AreRuns p lane 0 runs replies
  pub dealt : (members_of runs ++ under_way stage) ++ every jobs skip (lines_from next (drop next p)) ≡ every jobs lane (lines p)
  pub ended : is_ended stage ≡ true → every jobs skip (lines_from next (drop next p)) ≡ []

-- What becomes of the member that is under way, with this reply to its open question, if one is open: a question more, or its end. Then the worker stands so, with these runs.
pub record GoesTo (p : Program) (lane : ℕ) (runs : List MemberRun) (replies : List Reply) (m : Machine) (reply : Option Reply) (runs' : List MemberRun) (replies' : List Reply) (stage : Stage)
    (next : Next) : Type 0 where
  pub at : IsAtStage p stage
  pub runs_are : AreRuns p lane 0 runs' replies'
  pub told : runs_events p runs' replies' ++ so_far p stage
      ≡ with_leaving (with_answer (runs_events p runs replies ++ answers_of (walk (member_tree p m.member.0) (given m)).answered) reply (open_in m.phase)) next
  pub asks : asked_at stage ≡ question_in next
  pub postable : IfQuestion next (λ q stays. IsSpelled q)
  pub goes_on : IfQuestion next (GoesOn (runs_events p runs' replies' ++ so_far p stage))
  pub on : (is_end next ≡ false) × (is_ended stage ≡ false)
  pub members : members_of runs' ++ under_way stage ≡ members_of runs ++ m.member.0 ∷ []
  pub fewer : (k : ℕ) → left_at k stage + length (option_list reply) ≤ left_at k (stage'.Asked m)

-- The next member is begun, if there is one: a question, its end, or the end of all.
pub record Begins (p : Program) (jobs lane : ℕ) (next skip : ℕ) (runs : List MemberRun) (replies : List Reply) (next' skip' : ℕ) (runs' : List MemberRun) (replies' : List Reply) (stage : Stage)
    (what : Next) : Type 0 where
  pub at : IsAtStage p stage
  pub runs_are : AreRuns p lane 0 runs' replies'
  pub told : runs_events p runs' replies' ++ so_far p stage ≡ with_leaving (runs_events p runs replies) what
  pub asks : asked_at stage ≡ question_in what
  pub postable : IfQuestion what (λ q stays. IsSpelled q)
  pub goes_on : IfQuestion what (GoesOn (runs_events p runs' replies' ++ so_far p stage))
  pub end : is_ended stage ≡ is_end what
  pub dealt : (members_of runs' ++ under_way stage) ++ every jobs skip' (lines_from next' (drop next' p)) ≡ members_of runs ++ every jobs skip (lines_from next (drop next p))
  pub over : is_ended stage ≡ true → every jobs skip' (lines_from next' (drop next' p)) ≡ []
  pub fewer : left_at (length p - next') stage < left_at (length p - next) stage'.Between

-- a run with this verdict, whose checks are those of its machine, from this number on
abbrev pub run_of : (lane first : ℕ) → Machine → Verdict → MemberRun
run_of lane first m v = record { member = m.member; lane = lane; child = 0; first = first; checks = length m.replies.items; verdict = v }

abbrev pub some_list : Option ℕ → List ℕ
some_list None = []
some_list (Some n) = n ∷ []

-- What the runs of a program's members promise, lane by lane: each verdict is that of the walk over the replies that the record of
-- the link of the lane's child tells, and a member that is verified by right replies, its own and those of the members that it leads to,
-- fails at no place; and a method of fields, loops and calls that failed by a right sat fails at the place that is told.
use Rattle.std.specs.Prelude.{◌≡◌, ◌⊎◌, ℕ, ◌+◌, ◌<◌, ◌≤◌, ◌||◌, ⊤, Bool, true, false, List, [], ◌∷◌, ◌++◌, Some, length, map, take, drop, slice_get, if◌then◌else◌}
use Rattle.std.specs.List.{list_any}
use Rattle.vx_ast.specs.declared.Place.{Place}
use Rattle.vx_ast.specs.Syntax.{Program, Member, Method, IsMethod}
use Rattle.vx_terms.specs.Sorts.{BoolSort}
use Rattle.vx_terms.specs.Formed.{Formed}
use Rattle.vx_terms.specs.Interpretations.{Each}
use Rattle.vx_meaning.specs.Fails.{Fails, MethodFails}
use Rattle.vx_types.specs.Premises.{IsTypedProgram}
use Rattle.vx_smt_meaning.specs.declared.reply.Reply.TheVariants.{Sat}
use Rattle.vx_smt_meaning.specs.Commands.{Command, Declared, Assert}
use Rattle.vx_smt_meaning.specs.Dialogues.{Check}
use Rattle.vx_smt_meaning.specs.WellFormed.{IsWellFormed}
use Rattle.vx_ends.specs.declared.piece.Ending.{Ending}
use Rattle.vx_dialogue.specs.History.{Tells}
use Rattle.vx_dialogue.specs.Turns.{Turn, Asks, Posts, Leaves}
use Rattle.vx_dialogue.specs.Scripts.{ScopedTurn, plain, script}
use Rattle.vx_rules.specs.Trees.{Question, Answered, Ending as Ends, Passed, Failed, Open, Walked, walk}
use Rattle.vx_rules.specs.declared.code.Code.{Code}
use Rattle.vx_rules.specs.Codes.{code}
use Rattle.vx_machine.specs.Runs.{member_tree}
use Rattle.vx_live.specs.Functions.{function_symbols}
use Rattle.vx_report.specs.declared.run.Cause.{Cause}
use Rattle.vx_report.specs.declared.run.Cause.TheVariants as cause
use Rattle.vx_report.specs.declared.run.Verdict.{Verdict}
use Rattle.vx_report.specs.declared.run.Verdict.TheVariants as verdict'
use Rattle.vx_report.specs.declared.run.MemberRun.{MemberRun}
use Rattle.vx_report.specs.Reports.{is_faulted}
use Rattle.vx_runs.specs.Law.{NoWholeRunFails}
use Rattle.vx_closure.specs.Leads.{LeadsTo, HasDistinctNames}
use Rattle.vx_resting.specs.Resting.{AreRested}
use Rattle.vx_real.specs.Law.{IsInFieldFragment}
use Rattle.vx_verifier.specs.Sequences.{AreChecksOf, replies_to, IsRight, LastIsPossible, AllUnsat}
use Rattle.vx_verifier.specs.Causes.{HasCauseOf, NoCountRose, AllLawful}
use Rattle.vx_verifier.specs.Lines.{lines}
use Rattle.vx_verifier.specs.Dealt.{IsDealt, runs_in, links_in}

-- the program is typed as a whole, and no two of its members have one name
pub record IsWhole (p : Program) : Type 0 where
  pub typed : IsTypedProgram p
  pub distinct : HasDistinctNames p

-- The member with this number doesn't fail: a method at no place, in no run from any state satisfying
-- its precondition; the body of a predicate at no place where it is given to what holds nothing; a function in none of the ways that
-- `FunctionFails` tells, from any state satisfying its precondition.
abbrev pub NeverFails : Program → ℕ → Type 0
NeverFails p n = (m : Member) → slice_get p n ≡ Some m → Fails p m.name m.kind → ⊥

-- The verdict is that of the walk, which asked so many questions; one that rests on another passed by itself. The limit comes at 100,000 of them with one more due; a fault below it, in place of an answer.
abbrev pub IsVerdictOf : (Cause → Type 0) → Ends → (asked : ℕ) → Verdict → Type 0
IsVerdictOf HasCause ending asked verdict'.Verified = ending ≡ Passed
IsVerdictOf HasCause ending asked (verdict'.Failed place c r) = ending ≡ Failed place (code c) r
IsVerdictOf HasCause ending asked (verdict'.Rests m) = ending ≡ Passed
IsVerdictOf HasCause ending asked verdict'.Limit = (asked ≡ 100000) × (q : Question) × (ending ≡ Open q)
IsVerdictOf HasCause ending asked (verdict'.Fault cause) = HasCause cause × (asked < 100000) × (q : Question) × (ending ≡ Open q)

-- the walk through the tree of a member, over the replies to its checks
abbrev pub walk_of : Program → ℕ → List Check → Walked
walk_of p n own = walk (member_tree p n) (replies_to own)

-- the member has a question
abbrev pub is_open : Ends → Bool
is_open (Open q) = true
is_open Passed = false
is_open (Failed place c r) = false

abbrev pub has_question : Program → ℕ → Bool
has_question p n = is_open (walk_of p n []).ending

-- one of the members with these numbers has a question
abbrev pub some_ask : Program → List ℕ → Bool
some_ask p ns = list_any (has_question p) ns

-- Behind a fault of the lane no member is asked anything: where it has a question, its verdict is a fault, spent.
abbrev pub IsSpentAfter : (lost : Bool) → Program → ℕ → List Check → Verdict → Type 0
IsSpentAfter false p n own v = ⊤
IsSpentAfter true p n own v = (own ≡ []) × (has_question p n ≡ true → v ≡ verdict'.Fault cause.Spent)

-- What became of a member with these checks of its own.
pub record IsTold (p : Program) (n : ℕ) (HasCause : Cause → Type 0) (own : List Check) (v : Verdict) : Type 0 where
  -- its checks are the questions of the walk over their replies, in order
  pub checks : AreChecksOf (walk_of p n own).answered own
  -- no member has more
  pub few : length own ≤ 100000
  pub verdict : IsVerdictOf HasCause (walk_of p n own).ending (length own) v

module _ (p : Program) (links : List Ending) (faults_then faults_now : ℕ) (lane : ℕ) where
  -- A run of this lane, whose links these are, with the checks of its own, of which the first has this number; the lane was lost before, or not.
  pub record IsRunOf (lost : Bool) (first : ℕ) (own : List Check) (r : MemberRun) : Type 0 where
    -- a lane has one child
    pub own_lane : r.lane ≡ lane
    pub child : r.child ≡ 0
    -- it tells where its checks begin, and how many they are
    pub first_is : r.first ≡ first
    pub count : length own ≡ r.checks
    -- its checks are its member's questions, and its verdict is that of the walk
    pub told : IsTold p r.member.0 (HasCauseOf links faults_then faults_now lost) own r.verdict
    -- after a fault nothing is asked
    pub spent : IsSpentAfter lost p r.member.0 own r.verdict

  -- Each run of the lane tells what became of its member; their checks follow one another, from number `first` on.
  abbrev pub AreTold : (lost : Bool) (first : ℕ) → List MemberRun → List Check → Type 0
  AreTold lost first [] checks = checks ≡ []
  AreTold lost first (r ∷ runs) checks =
      (own rest : List Check) × (checks ≡ own ++ rest) × IsRunOf lost first own r × AreTold (lost || is_faulted r.verdict) (first + length own) runs rest

-- the questions that a walk answered, as a dialogue asks them
abbrev pub asks_of : List Answered → List Turn
asks_of [] = []
asks_of (a ∷ as') = Asks a.question.path a.question.condition ∷ asks_of as'

-- the question that is open has no reply
abbrev pub open_turn : Ends → List Turn
open_turn (Open q) = Posts q.path q.condition ∷ []
open_turn Passed = []
open_turn (Failed place c r) = []

-- the question at which the child is lost; behind a fault none is asked
abbrev pub failed_turn : (lost : Bool) → Ends → Verdict → List Turn
failed_turn true ending v = []
failed_turn false ending v = if is_faulted v then open_turn ending else []

-- a child that isn't lost is told that the member is left
abbrev pub left_turn : (lost : Bool) → List Turn
left_turn true = []
left_turn false = Leaves ∷ []

-- what the child is asked for a member with these checks of its own, before the member is left
abbrev pub asked_turns : (lost : Bool) → Program → ℕ → List Check → Verdict → List Turn
asked_turns lost p n own v = asks_of (walk_of p n own).answered ++ failed_turn lost (walk_of p n own).ending v

abbrev pub member_turns : (lost : Bool) → Program → ℕ → List Check → Verdict → List Turn
member_turns lost p n own v = asked_turns lost p n own v ++ left_turn (lost || is_faulted v)

-- All that a lane's child is asked, run by run: the questions that the member's walk answered, and that it is left.
-- At a fault the open question of the walk is the last, and has no reply.
abbrev pub turns_of : (lost : Bool) → Program → List MemberRun → List Check → List Turn
turns_of lost p [] checks = []
turns_of lost p (r ∷ runs) checks =
    member_turns lost p r.member.0 (take r.checks checks) r.verdict ++ turns_of (lost || is_faulted r.verdict) p runs (drop r.checks checks)

-- a child is lost at the first fault
abbrev pub lost_after : Bool → List MemberRun → Bool
lost_after lost [] = lost
lost_after lost (r ∷ runs) = lost_after (lost || is_faulted r.verdict) runs

-- The links of a lane that were handed back tell of these turns and checks: there is none, where there are no checks; else one. What was sent there is the text
-- of exactly these turns, with no proof asked for, behind the declarations of these symbols f; where it failed, a beginning of it.
abbrev pub IsRecorded : (functions : List Declared) → (failed : Bool) → (links : List Ending) → List ScopedTurn → List Check → Type 0
IsRecorded functions failed links turns checks =
    ((links ≡ []) × (checks ≡ [])) ⊎ ((ending : Ending) × (links ≡ ending ∷ []) × Tells failed (script false functions turns) ending.dialogue checks)

-- all that a child is told in these turns
abbrev pub script_of : Program → List ScopedTurn → List Command
script_of p turns = script false (function_symbols p) turns

-- the checks of a run: so many, from its first on, of those of its lane
abbrev pub sequence_of : MemberRun → ((lane : ℕ) → List Check) → List Check
sequence_of r checks = take r.checks (drop r.first (checks r.lane))

abbrev pub HasNoFault : List MemberRun → Type 0
HasNoFault runs = Each (λ (r : MemberRun). is_faulted r.verdict ≡ false) runs

abbrev pub HasNoLimit : List MemberRun → Type 0
HasNoLimit runs = Each (λ (r : MemberRun). r.verdict ≡ verdict'.Limit → ⊥) runs

-- this holds of the checks of each member that member n leads to, itself among them
abbrev pub Under : (List Check → Type 0) → Program → ℕ → List MemberRun → ((lane : ℕ) → List Check) → Type 0
Under Holds p n runs checks = Each (λ (r : MemberRun). LeadsTo p n r.member.0 → Holds (sequence_of r checks)) runs

-- The headline: a member that is verified doesn't fail, where the checks of all that it leads to are right.
abbrev pub AreSound : Program → List MemberRun → ((lane : ℕ) → List Check) → Type 0
AreSound p runs checks = Each (λ (r : MemberRun). r.verdict ≡ verdict'.Verified → Under (λ own. Each IsRight own) p r.member.0 runs checks → NeverFails p r.member.0) runs

-- A failure that is told by a right sat is one of a run, for methods that lead to fields, loops and calls alone.
abbrev pub AreReal : Program → List MemberRun → ((lane : ℕ) → List Check) → Type 0
AreReal p runs checks = Each (λ (r : MemberRun). (at : Place) (c : Code) (m : Member) (f : Method) → r.verdict ≡ verdict'.Failed at c Sat → slice_get p r.member.0 ≡ Some m → m.kind ≡ IsMethod f
    → IsInFieldFragment p m.name → LastIsPossible (sequence_of r checks) → MethodFails p f at) runs

-- Where no count rose and all replies were lawful, no verdict is a fault. Where none is a limit either, each member is verified
-- if the checks of all that it leads to were answered unsat.
pub record IsComplete (p : Program) (before now : List Ending) (faults_then faults_now : ℕ) (runs : List MemberRun) (checks : (lane : ℕ) → List Check) : Type 0 where
  pub no_fault : NoCountRose before now faults_then faults_now → AllLawful before now → HasNoFault runs
  pub verified : HasNoFault runs → HasNoLimit runs → Each (λ (r : MemberRun). Under AllUnsat p r.member.0 runs checks → r.verdict ≡ verdict'.Verified) runs

-- the numbers of the members, in the order of their runs
abbrev pub members_of : List MemberRun → List ℕ
members_of runs = map (λ r. r.member.0) runs

-- Where all members are verified, and by right checks alone, no whole run of a method fails: one in which calls run their callees' bodies, and loops go round.
abbrev pub KeepsWholeRuns : Program → (jobs : ℕ) → List MemberRun → ((lane : ℕ) → List Check) → Type 0
KeepsWholeRuns p jobs runs checks = Each (λ (r : MemberRun). r.verdict ≡ verdict'.Verified) runs → ((lane : ℕ) → lane < jobs → Each IsRight (checks lane)) → NoWholeRunFails p

-- an assertion is well-sorted
abbrev pub IsWellSorted : Command → Type 0
IsWellSorted (Assert t) = (n : ℕ) × Formed n t BoolSort
IsWellSorted c = ⊤

-- What is said of one lane: its runs by the replies that the record of its child's link tells, which was told the symbols of the program's functions, and asked exactly the questions
-- of the walks of the lane's members.
pub record IsLane (p : Program) (links : List Ending) (faults_then faults_now : ℕ) (lane : ℕ) (turns : List ScopedTurn) (checks : List Check) (runs : List MemberRun) : Type 0 where
  -- what the child was asked, each path with the numbers of its segments
  pub asked : map plain turns ≡ turns_of false p runs checks
  pub recorded : IsRecorded (function_symbols p) (lost_after false runs) links turns checks
  -- names are spelled, each symbol is declared before it is used, with its sorts, and no live one again; what is asserted is of sort Bool
  pub well_formed : IsWellFormed (script_of p turns)
  pub sorted : Each IsWellSorted (script_of p turns)
  pub told : AreTold p links faults_then faults_now lane false 0 runs checks

-- The promise: a run for each member that has a line, in file order, dealt to so many lanes, each with one child; in each lane by its own links; a member whose walk passed is verified, or rests
-- on the first that it leads to whose walk didn't.
pub record Headline (p : Program) (jobs : ℕ) (before now : List Ending) (faults_then faults_now : ℕ) (runs : List MemberRun) : Type 0 where
  -- the checks of each lane's child, and what it was asked
  pub checks : (lane : ℕ) → List Check
  pub turns : (lane : ℕ) → List ScopedTurn
  -- the links that were handed back since
  pub since : List Ending
  pub is : now ≡ before ++ since
  pub within : Each (λ (e : Ending). e.lane < jobs) since
  pub each : members_of runs ≡ lines p
  pub dealt : IsDealt jobs 0 runs
  pub lanes : (lane : ℕ) → lane < jobs → IsLane p (links_in lane since) faults_then faults_now lane (turns lane) (checks lane) (runs_in lane runs)
  pub rested : AreRested p runs
  pub sound : AreSound p runs checks
  pub whole_runs : KeepsWholeRuns p jobs runs checks
  pub real : AreReal p runs checks
  pub complete : IsComplete p before now faults_then faults_now runs checks

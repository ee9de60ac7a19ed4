-- How members come from their lanes into one list.
use Rattle.std.specs.Prelude.{◌≡◌, ℕ, Bool, ◌+◌, ◌-◌, ◌<◌, ◌≤◌, nat_lt, if◌then◌else◌, List, [], ◌∷◌, Some, length, map, reverse, slice_get}
use Rattle.std.specs.declared.vec.Vec.{Vec}
use Rattle.std.specs.declared.alloc.Global.{Global}
use Rattle.vx_terms.specs.Interpretations.{Each}
use Rattle.vx_smt_meaning.specs.Commands.{Declared}
use Rattle.vx_smt_meaning.specs.Views.{declared_symbol}
use Rattle.vx_ends.specs.declared.piece.Piece.{Piece}
use Rattle.vx_pool.specs.Events.{Event}
use Rattle.vx_report.specs.declared.run.Cause.{Cause}
use Rattle.vx_report.specs.declared.run.MemberRun.{MemberRun}
use Rattle.vx_verifier.specs.declared.line.Child.TheVariants.{NotStarted}
use Rattle.vx_verifier.specs.declared.line.Line.{Line}
use Rattle.vx_verifier.specs.declared.members.Members.{Members}
use Rattle.vx_verifier.specs.declared.members.Stage.TheVariants.{Between}
use Rattle.vx_verifier.specs.Dealt.{IsDealt, runs_in}
use Rattle.vx_verifier.specs.Headline.{members_of}
use Rattle.vx_verifier.specs.Lanes.{IsBack, IsHeld, IsOver, IsToldOf, TellsOf}
use Rattle.vx_verifier.specs.Lines.{lines}
use Rattle.vx_verifier.specs.Members.{every}
use Rattle.vx_verifier.specs.Outsets.{Hub, Outset}

-- lane number i, in which nothing has happened
pub record IsFresh {K L : Type 0} (jobs : ℕ) (command : List (List ℕ)) (functions : List Declared) (i : ℕ) (w : Members K) (t : Line K L) : Type 0 where
  pub lane : w.lane ≡ i
  pub jobs_is : w.jobs ≡ jobs
  pub next : w.next ≡ 0
  pub skip : w.skip ≡ i
  pub stage : w.stage ≡ Between
  pub runs : w.runs.items ≡ []
  pub replies : w.replies.items ≡ []
  pub number : t.lane ≡ i
  pub child : t.child ≡ NotStarted
  pub command_is : t.command.now ≡ command
  pub functions_are : map declared_symbol t.functions.now ≡ functions

abbrev pub AreFresh : {K L : Type 0} → (jobs : ℕ) → (command : List (List ℕ)) → (functions : List Declared) → List (Members K × Line K L) → Type 0
AreFresh {K} {L} jobs command functions lanes = (i : ℕ) (l : Members K × Line K L) → slice_get lanes i ≡ Some l → IsFresh jobs command functions i l.0 l.1

-- lane number i has number i
abbrev pub AreNumbered : {K L : Type 0} → List (Members K × Line K L) → Type 0
AreNumbered {K} {L} lanes = (i : ℕ) (l : Members K × Line K L) → slice_get lanes i ≡ Some l → l.1.lane ≡ i

-- each lane's child is held
abbrev pub AreHeldOver : {K L : Type 0} → (steady : L → Bool) → (faults : L → ℕ) → Outset → Hub → List (Members K × Line K L) → Type 0
AreHeldOver {K} {L} steady faults o h lanes =
    (i : ℕ) (l : Members K × Line K L) → slice_get lanes i ≡ Some l → IsHeld steady faults o l.1.lane l.1.command.now (map declared_symbol l.1.functions.now) l.1.child h

-- what each lane told before, its links tell then
abbrev pub AreToldOver : {K L : Type 0} → (L → List Piece) → Outset → (old new : Hub) → List (Members K × Line K L) → Type 0
AreToldOver {K} {L} dialogue o old new lanes =
    (i : ℕ) (l : Members K × Line K L) → slice_get lanes i ≡ Some l → (events : List (Event Cause)) → TellsOf dialogue o l.1.lane l.1.child old events → IsToldOf o l.1.lane new events

-- the piles hold the runs of each lane, the last one first, and together those of these members, as dealt
pub record ArePiles (ns : List ℕ) (piles : List (Vec MemberRun Global)) : Type 0 where
  pub own : (lane : ℕ) (pile : Vec MemberRun Global) → slice_get piles lane ≡ Some pile → Each (λ (r : MemberRun). r.lane ≡ lane) (reverse pile.items)
  pub members : (lane : ℕ) (pile : Vec MemberRun Global) → slice_get piles lane ≡ Some pile → members_of (reverse pile.items) ≡ every (length piles) lane ns

-- all of them in one list, in order
pub record AreDealtOut (ns : List ℕ) (piles : List (Vec MemberRun Global)) (runs : List MemberRun) : Type 0 where
  pub members : members_of runs ≡ ns
  pub dealt : IsDealt (length piles) 0 runs
  pub lanes : (lane : ℕ) (pile : Vec MemberRun Global) → slice_get piles lane ≡ Some pile → runs_in lane runs ≡ reverse pile.items

-- how many members of other lanes come before the next one of this lane, where the next member is that of lane `at`
abbrev pub skip_of : (jobs at lane : ℕ) → ℕ
skip_of jobs at lane = if nat_lt lane at then (lane + jobs) - at else lane - at

-- each lane is handed back
abbrev pub AreBack : Outset → Hub → Type 0
AreBack o h = (lane : ℕ) → lane < o.jobs → IsBack o lane h

-- a run for each member, as dealt, and each lane is over with its own runs
pub record AreOver (o : Outset) (h : Hub) (runs : List MemberRun) : Type 0 where
  pub members : members_of runs ≡ lines o.program
  pub dealt : IsDealt o.jobs 0 runs
  pub lanes : (lane : ℕ) → lane < o.jobs → IsOver o h lane (runs_in lane runs)

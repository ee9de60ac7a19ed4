-- The next member of a lane is begun, as the calls tell it that begin it.
use Rattle.std.proofs.Common.{◌≡◌, ℕ, ◌<◌, ◌≤◌, ◌++◌, List, [], Option, Some, None, Result, IfOk, drop, length, sym, subst}
use Rattle.std.proofs.lemmas.Result.{IfOk-weaker}
use Rattle.vx_ast.specs.Syntax.{Program}
use Rattle.vx_smt_meaning.specs.declared.reply.Reply.{Reply}
use Rattle.vx_machine.specs.declared.machine.Machine.{Machine}
use Rattle.vx_pool.specs.declared.next.Next.{Next}
use Rattle.vx_pool.specs.declared.next.Next.TheVariants as step
use Rattle.vx_report.specs.declared.run.MemberRun.{MemberRun}
use Rattle.vx_verifier.specs.declared.members.Stage.{Stage}
use Rattle.vx_verifier.specs.declared.members.Stage.TheVariants as stage'
use Rattle.vx_verifier.specs.Lines.{lines_from}
use Rattle.vx_verifier.specs.Members.{AreRuns, Begins, GoesTo, every, some_list}
use Rattle.vx_verifier.proofs.Beginnings.{IsStarted, begins_by, begins_end}

-- what a worker is behind the call that deals it a member
pub record Dealt (p : Program) (jobs lane next skip : ℕ) (runs : List MemberRun) (replies : List Reply) (dealt : Option ℕ) (lane' next' skip' : ℕ) (runs' : List MemberRun) (replies' : List Reply) : Type 0 where
  pub behind : every jobs skip (lines_from next (drop next p)) ≡ some_list dealt ++ every jobs skip' (lines_from next' (drop next' p))
  pub own : lane' ≡ lane
  pub runs_are : runs' ≡ runs
  pub replies_are : replies' ≡ replies

module _ (p : Program) (jobs lane next skip : ℕ) (runs : List MemberRun) (replies : List Reply) (lane' next' skip' : ℕ) (runs' : List MemberRun) (replies' : List Reply) where
  -- what goes on from the worker behind that call goes on from the one before
  back : (P : ℕ → List MemberRun → List Reply → Type 0) (d : Option ℕ) → Dealt p jobs lane next skip runs replies d lane' next' skip' runs' replies' → P lane' runs' replies' → P lane runs replies
  back P d dealt holds = subst (λ (l : ℕ). P l runs replies) dealt.own (subst (λ (rs : List MemberRun). P lane' rs replies) dealt.runs_are (subst (λ (rs : List Reply). P lane' runs' rs) dealt.replies_are holds))

  -- the runs are as they were
  pub runs_still : (d : Option ℕ) → Dealt p jobs lane next skip runs replies d lane' next' skip' runs' replies' → AreRuns p lane 0 runs replies → AreRuns p lane' 0 runs' replies'
  runs_still d dealt are =
      subst (λ (l : ℕ). AreRuns p l 0 runs' replies') (sym dealt.own)
      (subst (λ (rs : List MemberRun). AreRuns p lane 0 rs replies') (sym dealt.runs_are) (subst (λ (rs : List Reply). AreRuns p lane 0 runs rs) (sym dealt.replies_are) are))

  -- no member is left
  pub begun_none : Dealt p jobs lane next skip runs replies None lane' next' skip' runs' replies' → every jobs skip' (lines_from next' (drop next' p)) ≡ [] → AreRuns p lane 0 runs replies
      → Begins p jobs lane next skip runs replies next' skip' runs' replies' stage'.Ended step.End
  begun_none dealt over are =
      subst (λ (rs : List MemberRun). Begins p jobs lane next skip runs replies next' skip' rs replies' stage'.Ended step.End) (sym dealt.runs_are)
      (subst (λ (rs : List Reply). Begins p jobs lane next skip runs replies next' skip' runs rs stage'.Ended step.End) (sym dealt.replies_are)
      (begins_end p jobs lane next skip runs replies next' skip' are dealt.behind over))

  -- a member was begun, and went on
  pub begun_some : {E : Type 0} (n : ℕ) (m : Machine) (next'' skip'' : ℕ) (runs'' : List MemberRun) (replies'' : List Reply) (stage : Stage) (r : Result Next E)
      → Dealt p jobs lane next skip runs replies (Some n) lane' next' skip' runs' replies' → IsStarted p n m → next < next' → next' ≤ length p → next'' ≡ next' → skip'' ≡ skip'
      → IfOk r (GoesTo p lane' runs' replies' m None runs'' replies'' stage) → IfOk r (Begins p jobs lane next skip runs replies next'' skip'' runs'' replies'' stage)
  begun_some n m next'' skip'' runs'' replies'' stage r dealt is more within at behind goes =
      IfOk-weaker r _ _
      (λ what one. subst (λ (k : ℕ). Begins p jobs lane next skip runs replies k skip'' runs'' replies'' stage what) (sym at)
      (subst (λ (k : ℕ). Begins p jobs lane next skip runs replies next' k runs'' replies'' stage what) (sym behind)
      (begins_by p jobs lane next skip runs replies next' skip' n m runs'' replies'' stage what is more within dealt.behind
      (back (λ l rs as'. GoesTo p l rs as' m None runs'' replies'' stage what) (Some n) dealt one)))) goes

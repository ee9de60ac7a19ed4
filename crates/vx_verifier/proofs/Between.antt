-- What a call of a worker tells, from what its step tells.
use Rattle.std.proofs.Common.{◌≡◌, ℕ, ◌+◌, ◌-◌, ◌<◌, ◌≤◌, Bool, true, false, ◌++◌, ◌∷◌, [], List, Option, Some, None, Result, Ok, Err, IfOk, OnErr, is_some, length, refl, ap, ◌∙◌, sym, subst, append-nil, arith}
use Rattle.vx_ast.specs.Syntax.{Program}
use Rattle.vx_smt_meaning.specs.declared.reply.Reply.{Reply}
use Rattle.vx_rules.specs.Trees.{walk}
use Rattle.vx_machine.specs.Runs.{awaits, given, member_tree, option_list}
use Rattle.vx_machine.specs.declared.machine.Machine.{Machine}
use Rattle.vx_machine.specs.declared.machine.Phase.{Phase}
use Rattle.vx_machine.specs.declared.machine.Phase.TheVariants as phase'
use Rattle.vx_pool.specs.Events.{Event, with_answer, with_leaving, with_loss}
use Rattle.vx_pool.specs.declared.next.Next.{Next}
use Rattle.vx_report.specs.declared.run.Cause.{Cause}
use Rattle.vx_report.specs.declared.run.MemberRun.{MemberRun}
use Rattle.vx_report.specs.declared.run.Verdict.TheVariants as verdict
use Rattle.vx_verifier.specs.declared.members.Stage.{Stage}
use Rattle.vx_verifier.specs.declared.members.Stage.TheVariants as stage'
use Rattle.vx_verifier.specs.Members.{Begins, GoesTo, IsMember, IsWorking, answers_of, asked_at, is_spent, left_at, open_in, run_of, runs_events, so_far}
use Rattle.vx_verifier.proofs.Keeping.{no_answer, working_begun, working_gone, working_lost}
use Rattle.vx_verifier.proofs.Working.{Loses, loses}

-- a question that is open is awaited
pub open_awaits : (phase : Phase) → is_some (open_in phase) ≡ awaits phase
open_awaits phase'.Ready = refl
open_awaits (phase'.Asked q) = refl
open_awaits (phase'.Limited q) = refl
open_awaits phase'.Passed = refl
open_awaits (phase'.Failed place c r) = refl
open_awaits phase'.Spent = refl

-- what stands where memory ran out is what was put there first
pub spent_after : {E : Type 0} (r : Result Next E) (stage put : Stage) → put ≡ stage'.Spent → OnErr r (stage ≡ put) → OnErr r (stage ≡ stage'.Spent)
spent_after r stage put is err = subst (λ (s : Stage). OnErr r (stage ≡ s)) is err

-- what is spent isn't anything else
pub never_spent : {A : Type 0} (stage put : Stage) → put ≡ stage'.Spent → stage ≡ put → is_spent stage ≡ false → A
never_spent stage put is same fine = let spent : is_spent stage ≡ true = ap is_spent (same ∙ is) in cc

-- where a reply came it is one
pub one_came : (reply : Option Reply) → true ≡ is_some reply → length (option_list reply) ≡ 1
one_came None is = cc
one_came (Some r) is = refl

module _ (p : Program) (jobs lane next skip : ℕ) (runs : List MemberRun) (replies : List Reply) (old : Stage) (fits : is_spent old ≡ false → IsWorking p jobs lane next skip runs replies old) where
  -- no member was under way
  pub between : old ≡ stage'.Between → IsWorking p jobs lane next skip runs replies stage'.Between
  between is = subst (λ (s : Stage). IsWorking p jobs lane next skip runs replies s) is (fits (ap is_spent is))

  -- this one was
  pub amid : (m : Machine) → old ≡ stage'.Asked m → IsWorking p jobs lane next skip runs replies (stage'.Asked m)
  amid m is = subst (λ (s : Stage). IsWorking p jobs lane next skip runs replies s) is (fits (ap is_spent is))

  -- whatever the number of lanes and of the lane is named by
  moved : (jobs' lane' next' skip' : ℕ) (runs' : List MemberRun) (replies' : List Reply) (stage : Stage) → jobs' ≡ jobs → lane' ≡ lane → IsWorking p jobs lane next' skip' runs' replies' stage
      → IsWorking p jobs' lane' next' skip' runs' replies' stage
  moved jobs' lane' next' skip' runs' replies' stage same own w =
      subst (λ (k : ℕ). IsWorking p k lane' next' skip' runs' replies' stage) (sym same) (subst (λ (k : ℕ). IsWorking p jobs k next' skip' runs' replies' stage) (sym own) w)

  pub fits_begun : {E : Type 0} (jobs' lane' next' skip' : ℕ) (runs' : List MemberRun) (replies' : List Reply) (stage : Stage) (r : Result Next E) → old ≡ stage'.Between → jobs' ≡ jobs → lane' ≡ lane
      → IfOk r (Begins p jobs lane next skip runs replies next' skip' runs' replies' stage) → OnErr r (stage ≡ stage'.Spent) → is_spent stage ≡ false → IsWorking p jobs' lane' next' skip' runs' replies' stage
  fits_begun jobs' lane' next' skip' runs' replies' stage r is same own begun err fine =
      moved jobs' lane' next' skip' runs' replies' stage same own (working_begun p jobs lane next skip runs replies next' skip' runs' replies' stage r (between is) begun err fine)

  pub fits_gone : {E : Type 0} (m : Machine) (reply : Option Reply) (jobs' lane' next' skip' : ℕ) (runs' : List MemberRun) (replies' : List Reply) (stage : Stage) (r : Result Next E) → old ≡ stage'.Asked m
      → jobs' ≡ jobs → lane' ≡ lane → next' ≡ next → skip' ≡ skip → IfOk r (GoesTo p lane runs replies m reply runs' replies' stage) → OnErr r (stage ≡ stage'.Spent) → is_spent stage ≡ false
      → IsWorking p jobs' lane' next' skip' runs' replies' stage
  fits_gone m reply jobs' lane' next' skip' runs' replies' stage r is same own at behind goes err fine =
      let w = working_gone p jobs lane next skip runs replies m reply runs' replies' stage r (amid m is) goes err fine in
      moved jobs' lane' next' skip' runs' replies' stage same own
      (subst (λ (k : ℕ). IsWorking p jobs lane k skip' runs' replies' stage) (sym at) (subst (λ (k : ℕ). IsWorking p jobs lane next k runs' replies' stage) (sym behind) w))

  pub fits_lost : (m : Machine) (x : Cause) (jobs' lane' next' skip' : ℕ) (runs' : List MemberRun) (replies' : List Reply) → old ≡ stage'.Asked m → jobs' ≡ jobs → lane' ≡ lane → next' ≡ next → skip' ≡ skip
      → Loses p lane runs replies m x runs' replies' → IsWorking p jobs' lane' next' skip' runs' replies' stage'.Between
  fits_lost m x jobs' lane' next' skip' runs' replies' is same own at behind lost =
      let w = working_lost p jobs lane next skip runs replies m x runs' replies' (amid m is) lost in
      moved jobs' lane' next' skip' runs' replies' stage'.Between same own
      (subst (λ (k : ℕ). IsWorking p jobs lane k skip' runs' replies' stage'.Between) (sym at) (subst (λ (k : ℕ). IsWorking p jobs lane next k runs' replies' stage'.Between) (sym behind) w))

module _ (p : Program) (base : List (Event Cause)) (old : Stage) where
  pub told_between : (reply : Option Reply) → old ≡ stage'.Between → with_answer (base ++ so_far p old) reply (asked_at old) ≡ base
  told_between reply is = ap (λ (s : Stage). with_answer (base ++ so_far p s) reply (asked_at s)) is ∙ (no_answer (base ++ []) reply ∙ append-nil base)

  pub told_amid : (reply : Option Reply) (m : Machine) → old ≡ stage'.Asked m
      → with_answer (base ++ so_far p old) reply (asked_at old) ≡ with_answer (base ++ answers_of (walk (member_tree p m.member.0) (given m)).answered) reply (open_in m.phase)
  told_amid reply m is = ap (λ (s : Stage). with_answer (base ++ so_far p s) reply (asked_at s)) is

  pub told_lost : (x : Cause) (m : Machine) → old ≡ stage'.Asked m
      → with_loss (base ++ so_far p old) (asked_at old) x ≡ with_loss (base ++ answers_of (walk (member_tree p m.member.0) (given m)).answered) (open_in m.phase) x
  told_lost x m is = ap (λ (s : Stage). with_loss (base ++ so_far p s) (asked_at s) x) is

module _ (old : Stage) (reply : Option Reply) (awaited : is_some (asked_at old) ≡ is_some reply) where
  -- the reply is awaited
  pub awaited_of : (m : Machine) → old ≡ stage'.Asked m → awaits m.phase ≡ is_some reply
  awaited_of m is = sym (open_awaits m.phase) ∙ (sym (ap (λ (s : Stage). is_some (asked_at s)) is) ∙ awaited)

  pub fewer_begun : (before after : ℕ) (stage : Stage) → old ≡ stage'.Between → left_at after stage < left_at before stage'.Between → left_at after stage < left_at before old
  fewer_begun before after stage is fewer = subst (λ (s : Stage). left_at after stage < left_at before s) (sym is) fewer

  pub fewer_gone : (k k' : ℕ) (stage : Stage) (m : Machine) → old ≡ stage'.Asked m → awaits m.phase ≡ true → k' ≡ k → left_at k stage + length (option_list reply) ≤ left_at k (stage'.Asked m)
      → left_at k' stage < left_at k old
  fewer_gone k k' stage m is awaits same fewer =
      let one = one_came reply (sym awaits ∙ awaited_of m is) in
      let less : left_at k stage + 1 ≤ left_at k (stage'.Asked m) = subst (λ (n : ℕ). left_at k stage + n ≤ left_at k (stage'.Asked m)) one fewer in
      subst (λ (s : Stage). left_at k' stage < left_at k s) (sym is) (subst (λ (n : ℕ). left_at n stage < left_at k (stage'.Asked m)) (sym same) (omega arith))

-- ---- what a call tells, said of what stood before it

module _ (p : Program) (lane : ℕ) (runs : List MemberRun) (replies : List Reply) (old : Stage) (reply : Option Reply) (runs' : List MemberRun) (replies' : List Reply) (stage : Stage) where
  abbrev Tells : Next → Type 0
  Tells what = runs_events p runs' replies' ++ so_far p stage ≡ with_leaving (with_answer (runs_events p runs replies ++ so_far p old) reply (asked_at old)) what

  pub tells_begun : {E : Type 0} (jobs next skip next' skip' : ℕ) (r : Result Next E) → old ≡ stage'.Between → IfOk r (Begins p jobs lane next skip runs replies next' skip' runs' replies' stage) → IfOk r Tells
  tells_begun jobs next skip next' skip' (Ok what) is b = b.told ∙ ap (λ es. with_leaving es what) (sym (told_between p (runs_events p runs replies) old reply is))
  tells_begun jobs next skip next' skip' (Err e) is b = tt

  pub tells_gone : {E : Type 0} (m : Machine) (r : Result Next E) → old ≡ stage'.Asked m → IfOk r (GoesTo p lane runs replies m reply runs' replies' stage) → IfOk r Tells
  tells_gone m (Ok what) is goes = goes.told ∙ ap (λ es. with_leaving es what) (sym (told_amid p (runs_events p runs replies) old reply m is))
  tells_gone m (Err e) is goes = tt

-- the question that was open is that of the machine
pub awaits_of : (old : Stage) (m : Machine) → is_some (asked_at old) ≡ true → old ≡ stage'.Asked m → awaits m.phase ≡ true
awaits_of old m asked is = sym (open_awaits m.phase) ∙ (sym (ap (λ (s : Stage). is_some (asked_at s)) is) ∙ asked)

-- the machine's question was lost, and the member put
pub lost_by : (p : Program) (jobs lane next skip : ℕ) (runs : List MemberRun) (replies : List Reply) (m : Machine) (x : Cause) (runs' : List MemberRun) (replies' : List Reply)
    → IsWorking p jobs lane next skip runs replies (stage'.Asked m) → runs' ≡ runs ++ run_of lane (length replies) m (verdict.Fault x) ∷ [] → replies' ≡ replies ++ m.replies.items
    → Loses p lane runs replies m x runs' replies'
lost_by p jobs lane next skip runs replies m x runs' replies' w run own =
    subst (λ (rs : List MemberRun). Loses p lane runs replies m x rs replies') (sym run)
    (subst (λ (rs : List Reply). Loses p lane runs replies m x (runs ++ run_of lane (length replies) m (verdict.Fault x) ∷ []) rs) (sym own)
    (loses p lane runs replies m x w.at.0 w.at.1 w.runs_are))

pub fewer_lost : (k k' : ℕ) (old : Stage) (m : Machine) → old ≡ stage'.Asked m → k' ≡ k → left_at k stage'.Between ≤ left_at k (stage'.Asked m) → left_at k' stage'.Between ≤ left_at k old
fewer_lost k k' old m is same fewer = subst (λ (s : Stage). left_at k' stage'.Between ≤ left_at k s) (sym is) (subst (λ (n : ℕ). left_at n stage'.Between ≤ left_at k (stage'.Asked m)) (sym same) fewer)

-- What a worker keeps, from one call to the next.
use Rattle.std.proofs.Common.{◌≡◌, ℕ, ◌-◌, ◌<◌, Bool, true, false, ◌++◌, ◌∷◌, [], List, Option, Some, None, Result, Ok, Err, IfOk, OnErr, is_some, drop, length, refl, ap, ◌∙◌, sym, subst, append-nil, arith}
use Rattle.vx_ast.specs.Syntax.{Program}
use Rattle.vx_smt_meaning.specs.declared.reply.Reply.{Reply}
use Rattle.vx_rules.specs.Trees.{Question}
use Rattle.vx_machine.specs.declared.machine.Machine.{Machine}
use Rattle.vx_pool.specs.Events.{Event, with_answer, with_leaving, with_loss}
use Rattle.vx_pool.specs.declared.next.Next.{Next}
use Rattle.vx_report.specs.declared.run.Cause.{Cause}
use Rattle.vx_report.specs.declared.run.MemberRun.{MemberRun}
use Rattle.vx_verifier.specs.declared.members.Stage.{Stage}
use Rattle.vx_verifier.specs.declared.members.Stage.TheVariants as stage'
use Rattle.vx_verifier.specs.Headline.{members_of}
use Rattle.vx_verifier.specs.Lines.{lines, lines_from}
use Rattle.vx_verifier.specs.Members.{Begins, GoesTo, IsWorking, every, is_ended, is_spent, runs_events, so_far, under_way}
use Rattle.vx_verifier.proofs.Working.{Loses}

pub no_answer : (events : List (Event Cause)) (reply : Option Reply) → with_answer events reply None ≡ events
no_answer events None = refl
no_answer events (Some r) = refl

spent_not : (s : Stage) → s ≡ stage'.Spent → is_spent s ≡ false → ⊥
spent_not s is not = let h = ap is_spent is in cc

module _ (p : Program) (jobs lane next skip : ℕ) (runs : List MemberRun) (replies : List Reply) where
  -- the next member was begun
  pub working_begun : {E : Type 0} (next' skip' : ℕ) (runs' : List MemberRun) (replies' : List Reply) (stage : Stage) (r : Result Next E) → IsWorking p jobs lane next skip runs replies stage'.Between
      → IfOk r (Begins p jobs lane next skip runs replies next' skip' runs' replies' stage) → OnErr r (stage ≡ stage'.Spent) → is_spent stage ≡ false → IsWorking p jobs lane next' skip' runs' replies' stage
  working_begun next' skip' runs' replies' stage (Ok what) w b err fine = record {
    some = w.some;
    at = b.at;
    runs_are = b.runs_are;
    dealt = b.dealt ∙ (ap (λ l. l ++ every jobs skip (lines_from next (drop next p))) (sym (append-nil (members_of runs))) ∙ w.dealt);
    ended = b.over;
  }
  working_begun next' skip' runs' replies' stage (Err e) w b err fine = absurd (spent_not stage err fine)

  -- the member that was under way went on
  pub working_gone : {E : Type 0} (m : Machine) (reply : Option Reply) (runs' : List MemberRun) (replies' : List Reply) (stage : Stage) (r : Result Next E) → IsWorking p jobs lane next skip runs replies (stage'.Asked m)
      → IfOk r (GoesTo p lane runs replies m reply runs' replies' stage) → OnErr r (stage ≡ stage'.Spent) → is_spent stage ≡ false → IsWorking p jobs lane next skip runs' replies' stage
  working_gone m reply runs' replies' stage (Ok what) w goes err fine = record {
    some = w.some;
    at = goes.at;
    runs_are = goes.runs_are;
    dealt = ap (λ l. l ++ every jobs skip (lines_from next (drop next p))) goes.members ∙ w.dealt;
    ended = λ is. let not = goes.on.1 in absurd (both (is_ended stage) is not);
  }
    where
      both : (b : Bool) → b ≡ true → b ≡ false → ⊥
      both b is not = cc
  working_gone m reply runs' replies' stage (Err e) w goes err fine = absurd (spent_not stage err fine)

  -- its question was lost
  pub working_lost : (m : Machine) (x : Cause) (runs' : List MemberRun) (replies' : List Reply) → IsWorking p jobs lane next skip runs replies (stage'.Asked m) → Loses p lane runs replies m x runs' replies'
      → IsWorking p jobs lane next skip runs' replies' stage'.Between
  working_lost m x runs' replies' w lost = record {
    some = w.some;
    at = tt;
    runs_are = lost.runs_are;
    dealt = ap (λ l. l ++ every jobs skip (lines_from next (drop next p))) lost.members ∙ w.dealt;
    ended = λ is. cc;
  }

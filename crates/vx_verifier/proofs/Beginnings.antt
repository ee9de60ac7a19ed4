-- How the next member of a lane is begun.
use Rattle.std.proofs.Common.{◌≡◌, ℕ, ◌+◌, ◌-◌, ◌<◌, ◌≤◌, Bool, true, false, ◌++◌, ◌∷◌, [], List, Option, Some, None, drop, length, map, refl, ap, ◌∙◌, sym, subst, append_assoc, append-nil, arith}
use Rattle.vx_ast.specs.Syntax.{Program}
use Rattle.vx_ast.specs.declared.MemberId.{MemberId}
use Rattle.vx_smt_meaning.specs.declared.reply.Reply.{Reply}
use Rattle.vx_rules.specs.Trees.{Answered, walk}
use Rattle.vx_machine.specs.Runs.{Follows, EachAnswered, given, member_tree}
use Rattle.vx_machine.specs.declared.machine.Machine.{Machine}
use Rattle.vx_machine.specs.declared.machine.Phase.TheVariants as phase'
use Rattle.vx_pool.specs.Events.{with_leaving}
use Rattle.vx_pool.specs.declared.next.Next.{Next}
use Rattle.vx_pool.specs.declared.next.Next.TheVariants as step
use Rattle.vx_report.specs.declared.run.MemberRun.{MemberRun}
use Rattle.vx_verifier.specs.declared.members.Stage.{Stage}
use Rattle.vx_verifier.specs.declared.members.Stage.TheVariants as stage'
use Rattle.vx_verifier.specs.Headline.{members_of}
use Rattle.vx_verifier.specs.Lines.{lines_from}
use Rattle.vx_verifier.specs.Members.{AreRuns, Begins, GoesTo, IsMember, IsOpenAt, answers_of, every, is_ended, left_at, open_in, runs_events, so_far, some_list, under_way}
use Rattle.vx_verifier.proofs.Walks.{walk_extends}

-- a machine that was started, and did nothing yet
pub record IsStarted (p : Program) (n : ℕ) (m : Machine) : Type 0 where
  pub follows : Follows p m
  pub member : m.member.0 ≡ n
  pub limit : m.limit ≡ 100000
  pub replies : m.replies.items ≡ []
  pub ready : m.phase ≡ phase'.Ready

none_answered : (p : Program) (n : ℕ) (rs : List Reply) → rs ≡ [] → (walk (member_tree p n) rs).answered ≡ []
none_answered p n rs none = ap (λ x. (walk (member_tree p n) x).answered) none ∙ (walk_extends (member_tree p n)).none

pub member_first : (p : Program) (n : ℕ) (m : Machine) → n < length p → IsStarted p n m → IsMember p m
member_first p n m below is =
    let none : given m ≡ [] = is.replies in
    let count : length m.replies.items ≡ 0 = ap length is.replies in
    record {
      follows = is.follows;
      limit = is.limit;
      within = subst (λ (k : ℕ). k < length p) (sym is.member) below;
      few = omega arith;
      answered = ap (map (λ (a : Answered). a.reply)) (none_answered p m.member.0 (given m) none) ∙ sym none;
      due = subst (λ ph. IsOpenAt (open_in ph) (walk (member_tree p m.member.0) (given m)).ending) (sym is.ready) tt;
    }

both : (b : Bool) → b ≡ true → b ≡ false → ⊥
both b is not = cc

module _ (p : Program) (jobs lane next skip : ℕ) (runs : List MemberRun) (replies : List Reply) (next' skip' : ℕ) where
  abbrev Behind : ℕ → ℕ → List ℕ
  Behind n k = every jobs k (lines_from n (drop n p))

  pub begins_by : (n : ℕ) (m : Machine) (runs' : List MemberRun) (replies' : List Reply) (stage : Stage) (what : Next) → IsStarted p n m → next < next' → next' ≤ length p
      → Behind next skip ≡ some_list (Some n) ++ Behind next' skip' → GoesTo p lane runs replies m None runs' replies' stage what → Begins p jobs lane next skip runs replies next' skip' runs' replies' stage what
  begins_by n m runs' replies' stage what is more within dealt goes =
      let none : given m ≡ [] = is.replies in
      let count : length m.replies.items ≡ 0 = ap length is.replies in
      let base = runs_events p runs replies in
      let fewer = goes.fewer (length p - next') in
      record {
        at = goes.at;
        runs_are = goes.runs_are;
        told = goes.told ∙ (ap (λ as'. with_leaving (base ++ answers_of as') what) (none_answered p m.member.0 (given m) none) ∙ ap (λ es. with_leaving es what) (append-nil base));
        asks = goes.asks;
        postable = goes.postable;
        goes_on = goes.goes_on;
        end = goes.on.1 ∙ sym goes.on.0;
        dealt = ap (λ l. l ++ Behind next' skip') goes.members
            ∙ (append_assoc (members_of runs) (m.member.0 ∷ []) (Behind next' skip') ∙ (ap (λ k. members_of runs ++ k ∷ Behind next' skip') is.member ∙ ap (λ l. members_of runs ++ l) (sym dealt)));
        over = λ ended. absurd (both (is_ended stage) ended goes.on.1);
        fewer = omega arith;
      }

  pub begins_end : AreRuns p lane 0 runs replies → Behind next skip ≡ some_list None ++ Behind next' skip' → Behind next' skip' ≡ []
      → Begins p jobs lane next skip runs replies next' skip' runs replies stage'.Ended step.End
  begins_end are dealt over = record {
    at = tt;
    runs_are = are;
    told = append-nil (runs_events p runs replies);
    asks = refl;
    postable = tt;
    goes_on = tt;
    end = refl;
    dealt = ap (λ l. l ++ Behind next' skip') (append-nil (members_of runs)) ∙ ap (λ l. members_of runs ++ l) (sym dealt);
    over = λ ended. over;
    fewer = omega arith;
  }

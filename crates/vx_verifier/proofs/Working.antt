-- How a worker goes on, from one question to the next.
use Rattle.std.proofs.Common.{◌≡◌, ℕ, ◌+◌, ◌<◌, ◌≤◌, Bool, true, false, ◌++◌, ◌∷◌, [], List, Option, Some, None, is_some, length, map, take, drop, refl, ap, ap₂, ◌∙◌, sym, subst, append_assoc, append-nil, length-append, arith}
use Rattle.std.proofs.lemmas.List.{take-append-drop}
use Rattle.vx_ast.specs.Syntax.{Program}
use Rattle.vx_smt_meaning.specs.declared.reply.Reply.{Reply}
use Rattle.vx_rules.specs.Trees.{Question, Answered, Ending as Ends, Open, Walked, walk}
use Rattle.vx_grows.specs.Grows.{Begins}
use Rattle.vx_stack.specs.declared.question.Query.{Query}
use Rattle.vx_stack.specs.Stack.{query}
use Rattle.vx_machine.specs.Growth.{IsOpen, Stays}
use Rattle.vx_machine.specs.Runs.{Follows, Told, EachAnswered, Shows, awaits, given, member_tree, option_list}
use Rattle.vx_machine.specs.declared.machine.Machine.{Machine}
use Rattle.vx_machine.specs.declared.machine.Ask.{Ask}
use Rattle.vx_machine.specs.declared.machine.Ask.TheVariants.{Check as Due, Done}
use Rattle.vx_machine.specs.declared.machine.Phase.{Phase}
use Rattle.vx_machine.specs.declared.machine.Phase.TheVariants as phase'
use Rattle.vx_machine.specs.declared.machine.Outcome.{Outcome}
use Rattle.vx_machine.specs.declared.machine.Outcome.TheVariants as outcome
use Rattle.vx_pool.specs.Events.{Event, standing, with_answer, with_loss}
use Rattle.vx_pool.specs.Events as event
use Rattle.vx_pool.specs.declared.next.Next.TheVariants as next'
use Rattle.vx_report.specs.declared.run.Cause.{Cause}
use Rattle.vx_report.specs.declared.run.Verdict.{Verdict}
use Rattle.vx_report.specs.declared.run.Verdict.TheVariants as verdict
use Rattle.vx_report.specs.declared.run.MemberRun.{MemberRun}
use Rattle.vx_report.specs.Reports.{is_resting}
use Rattle.vx_verifier.specs.declared.members.Stage.TheVariants as stage'
use Rattle.vx_verifier.specs.Headline.{IsVerdictOf, members_of}
use Rattle.vx_verifier.specs.Lanes.{verdict_of}
use Rattle.vx_verifier.specs.Members.{answers_of, over_by, run_events, runs_events, open_in, IsRun, AreRuns, IsOpenAt, IsMember, GoesTo, run_of, left_at}
use Rattle.vx_verifier.specs.Steady.{AsksSpelled}
use Rattle.vx_verifier.proofs.Events.{standing_behind}
use Rattle.vx_verifier.proofs.Runs.{own_front, members_more, zero_on}
use Rattle.vx_verifier.proofs.Steady.{open_spelled}
use Rattle.vx_verifier.proofs.Walks.{walk_extends}

-- ---- one run more

pub runs_more : (p : Program) (lane first : ℕ) (runs : List MemberRun) (replies : List Reply) (r : MemberRun) (own : List Reply)
    → AreRuns p lane first runs replies → IsRun p lane (first + length replies) r own → AreRuns p lane first (runs ++ r ∷ []) (replies ++ own)
runs_more p lane first [] replies r own are run =
    let front = own_front r.checks (replies ++ own) own [] (ap (λ x. x ++ own) are ∙ sym (append-nil own)) run.count in
    let place : first + length replies ≡ first = ap (λ x. first + length x) are ∙ omega arith in
    (subst (IsRun p lane first r) (sym front.0) (subst (λ k. IsRun p lane k r own) place run), front.1)
runs_more p lane first (s ∷ runs) replies r own are run =
    let mine = take s.checks replies in
    let behind = drop s.checks replies in
    let parts : replies ≡ mine ++ behind = sym (take-append-drop s.checks replies) in
    let front = own_front s.checks (replies ++ own) mine (behind ++ own) (ap (λ x. x ++ own) parts ∙ append_assoc mine behind own) are.0.count in
    let long : length replies ≡ length mine + length behind = ap length parts ∙ length-append mine behind in
    let count = are.0.count in
    let place : first + length replies ≡ (first + s.checks) + length behind = omega arith in (
      subst (IsRun p lane first s) (sym front.0) are.0,
      subst (AreRuns p lane (first + s.checks) (runs ++ r ∷ [])) (sym front.1) (runs_more p lane (first + s.checks) runs behind r own are.1 (subst (λ k. IsRun p lane k r own) place run)),
    )

pub events_more : (p : Program) (lane first : ℕ) (runs : List MemberRun) (replies : List Reply) (r : MemberRun) (own : List Reply) → AreRuns p lane first runs replies → length own ≡ r.checks
    → runs_events p (runs ++ r ∷ []) (replies ++ own) ≡ runs_events p runs replies ++ run_events p r own
events_more p lane first [] replies r own are count =
    let front = own_front r.checks (replies ++ own) own [] (ap (λ x. x ++ own) are ∙ sym (append-nil own)) count in
    append-nil (run_events p r (take r.checks (replies ++ own))) ∙ ap (run_events p r) front.0
events_more p lane first (s ∷ runs) replies r own are count =
    let mine = take s.checks replies in
    let behind = drop s.checks replies in
    let parts : replies ≡ mine ++ behind = sym (take-append-drop s.checks replies) in
    let front = own_front s.checks (replies ++ own) mine (behind ++ own) (ap (λ x. x ++ own) parts ∙ append_assoc mine behind own) are.0.count in
    ap₂ (λ x y. run_events p s x ++ runs_events p (runs ++ r ∷ []) y) front.0 front.1
    ∙ (ap (λ x. run_events p s mine ++ x) (events_more p lane (first + s.checks) runs behind r own are.1 count)
    ∙ sym (append_assoc (run_events p s mine) (runs_events p runs behind) (run_events p r own)))

-- ---- the question that is open

open_some : (phase : Phase) → awaits phase ≡ true → (q : Question) × (open_in phase ≡ Some q)
open_some (phase'.Asked q) is = (query q, refl)
open_some phase'.Ready is = cc
open_some (phase'.Limited q) is = cc
open_some phase'.Passed is = cc
open_some (phase'.Failed place c r) is = cc
open_some phase'.Spent is = cc

opened_at : (phase : Phase) (q : Query) → awaits phase ≡ true → IsOpen phase (Due q) → open_in phase ≡ Some (query q)
opened_at (phase'.Asked q') q is same = ap (λ (x : Question). Some x) same
opened_at phase'.Ready q is same = cc
opened_at (phase'.Limited q') q is same = cc
opened_at phase'.Passed q is same = cc
opened_at (phase'.Failed place c r) q is same = cc
opened_at phase'.Spent q is same = cc

-- the question that stays goes on from the one that was open
stays_from : (phase : Phase) (q : Query) → Stays phase (Due q) → (old : Question) × (open_in phase ≡ Some old) × (awaits phase ≡ true) × Begins old.path (query q).path
stays_from (phase'.Asked q') q stays = (query q', refl, refl, stays)
stays_from phase'.Ready q stays = absurd stays
stays_from (phase'.Limited q') q stays = absurd stays
stays_from phase'.Passed q stays = absurd stays
stays_from (phase'.Failed place c r) q stays = absurd stays
stays_from phase'.Spent q stays = absurd stays

answers_more : (as' : List Answered) (a : Answered) → answers_of (as' ++ a ∷ []) ≡ answers_of as' ++ event.Answered a.question a.reply ∷ []
answers_more [] a = refl
answers_more (b ∷ as') a = ap (λ l. event.Answered b.question b.reply ∷ l) (answers_more as' a)

-- what a machine tells of its next question, or of its end
pub record Tells (p : Program) (m m' : Machine) (reply : Option Reply) (ask : Ask) : Type 0 where
  pub follows : Follows p m'
  pub told : Told ask (walk (member_tree p m'.member.0) (given m')) m'.limit (length m'.replies.items)
  pub answered : EachAnswered (walk (member_tree p m'.member.0) (given m')) (given m')
  pub replies : m'.replies.items ≡ m.replies.items ++ option_list reply
  pub member : m'.member ≡ m.member
  pub limit : m'.limit ≡ m.limit
  pub shows : Shows m'.phase m'.limit ask
  pub stays : m'.stays ≡ true → Stays m.phase ask
  pub opened : IsOpen m'.phase ask

module _ (p : Program) (m m' : Machine) (is : IsMember p m) where
  -- one answer more, where a question was open
  answers_on : (reply : Option Reply) (ask : Ask) → awaits m.phase ≡ is_some reply → Tells p m m' reply ask → (base : List (Event Cause))
      → base ++ answers_of (walk (member_tree p m'.member.0) (given m')).answered
      ≡ with_answer (base ++ answers_of (walk (member_tree p m.member.0) (given m)).answered) reply (open_in m.phase)
  answers_on None ask awaited tells base =
      ap (λ k. base ++ answers_of (walk (member_tree p k) (given m')).answered) (ap (λ x. x.0) tells.member)
      ∙ ap (λ rs. base ++ answers_of (walk (member_tree p m.member.0) rs).answered) (tells.replies ∙ append-nil m.replies.items)
  answers_on (Some r) ask awaited tells base =
      let t = member_tree p m.member.0 in
      let w = walk t (given m) in
      let some = open_some m.phase awaited in
      let due : w.ending ≡ Open some.0 = subst (λ (o : Option Question). IsOpenAt o w.ending) some.1 is.due in
      ap (λ k. base ++ answers_of (walk (member_tree p k) (given m')).answered) (ap (λ x. x.0) tells.member)
      ∙ (ap (λ rs. base ++ answers_of (walk t rs).answered) tells.replies
      ∙ (ap (λ as'. base ++ answers_of as') ((walk_extends t).one_more some.0 (given m) r due)
      ∙ (ap (λ x. base ++ x) (answers_more w.answered (record { question = some.0; reply = r }))
      ∙ (sym (append_assoc base (answers_of w.answered) (event.Answered some.0 r ∷ [])) ∙ ap (λ (o : Option Question). with_answer (base ++ answers_of w.answered) (Some r) o) (sym some.1)))))

  longer : (reply : Option Reply) (ask : Ask) → Tells p m m' reply ask → length m'.replies.items ≡ length m.replies.items + length (option_list reply)
  longer reply ask tells = ap length tells.replies ∙ length-append m.replies.items (option_list reply)

  few_more : (reply : Option Reply) → length (option_list reply) ≤ 1
  few_more None = omega arith
  few_more (Some r) = omega arith

  pub goes_to_question : (lane : ℕ) (runs : List MemberRun) (replies : List Reply) (reply : Option Reply) (q : Query) → awaits m.phase ≡ is_some reply → AreRuns p lane 0 runs replies → AsksSpelled p
      → Tells p m m' reply (Due q) → GoesTo p lane runs replies m reply runs replies (stage'.Asked m') (next'.Question q m'.stays)
  goes_to_question lane runs replies reply q awaited are spelled tells =
      let w' = walk (member_tree p m'.member.0) (given m') in
      let base = runs_events p runs replies in
      let on = answers_on reply (Due q) awaited tells base in
      let opened = opened_at m'.phase q tells.shows.0 tells.opened in
      let due = tells.told.1 in
      let limit = tells.limit in
      let limit_is = is.limit in
      let few = is.few in
      let long = longer reply (Due q) tells in
      let within : m'.member.0 < length p = subst (λ (k : ℕ). k < length p) (sym (ap (λ x. x.0) tells.member)) is.within in
      record {
        at = (
          record {
            follows = tells.follows;
            limit = limit ∙ limit_is;
            within = within;
            few = omega arith;
            answered = tells.answered;
            due = subst (λ (o : Option Question). IsOpenAt o w'.ending) (sym opened) tells.told.0;
          },
          tells.shows.0,
        );
        runs_are = are;
        told = on;
        asks = opened;
        postable = open_spelled (member_tree p m'.member.0) (given m') (query q) (spelled m'.member.0) tells.told.0;
        goes_on = λ stays. goes_by reply (stays_from m.phase q (tells.stays stays)) awaited on;
        on = (refl, refl);
        members = ap (λ k. members_of runs ++ k ∷ []) (ap (λ x. x.0) tells.member);
        fewer = λ k. omega arith;
      }
    where
      goes_by : (reply : Option Reply) → (old : Question) × (open_in m.phase ≡ Some old) × (awaits m.phase ≡ true) × Begins old.path (query q).path → awaits m.phase ≡ is_some reply
          → runs_events p runs replies ++ answers_of (walk (member_tree p m'.member.0) (given m')).answered
          ≡ with_answer (runs_events p runs replies ++ answers_of (walk (member_tree p m.member.0) (given m)).answered) reply (open_in m.phase)
          → Begins (standing (runs_events p runs replies ++ answers_of (walk (member_tree p m'.member.0) (given m')).answered)) (query q).path
      goes_by None from awaited on = let h = from.2 in absurd (cc)
      goes_by (Some r) from awaited on =
          let before = runs_events p runs replies ++ answers_of (walk (member_tree p m.member.0) (given m)).answered in
          let stands = ap standing (on ∙ ap (λ (o : Option Question). with_answer before (Some r) o) from.1) ∙ standing_behind before from.0 r in
          subst (λ path. Begins path (query q).path) (sym stands) from.3

  at_end : (o : Outcome) (w : Walked) (checks : ℕ) → Told (Done o) w 100000 checks → IsVerdictOf (λ x. Unit {0}) w.ending checks (verdict_of o)
  at_end outcome.Passed w checks told = told
  at_end (outcome.Failed place c r) w checks told = told
  at_end (outcome.Limit n) w checks told = (sym told.1, told.2.0, told.2.1)

  alone : (o : Outcome) → is_resting (verdict_of o) ≡ false
  alone outcome.Passed = refl
  alone (outcome.Failed place c r) = refl
  alone (outcome.Limit n) = refl

  left_behind : (e : Ends) (o : Outcome) → over_by e (verdict_of o) ≡ event.Left ∷ []
  left_behind e outcome.Passed = refl
  left_behind e (outcome.Failed place c r) = refl
  left_behind e (outcome.Limit n) = refl

  pub goes_to_end : (lane : ℕ) (runs : List MemberRun) (replies : List Reply) (reply : Option Reply) (o : Outcome) (v : Verdict) → v ≡ verdict_of o → awaits m.phase ≡ is_some reply → AreRuns p lane 0 runs replies
      → Tells p m m' reply (Done o) → GoesTo p lane runs replies m reply (runs ++ run_of lane (length replies) m' v ∷ []) (replies ++ m'.replies.items) stage'.Between next'.Left
  goes_to_end lane runs replies reply o v verdict_is awaited are tells =
      let w' = walk (member_tree p m'.member.0) (given m') in
      let base = runs_events p runs replies in
      let run = run_of lane (length replies) m' v in
      let long = longer reply (Done o) tells in
      let one = few_more reply in
      let few = is.few in
      let limit : m'.limit ≡ 100000 = tells.limit ∙ is.limit in
      let told : Told (Done o) w' 100000 (length m'.replies.items) = subst (λ k. Told (Done o) w' k (length m'.replies.items)) limit tells.told in
      let is_run : IsRun p lane (0 + length replies) run m'.replies.items = record {
        own_lane = refl;
        child = refl;
        first_is = zero_on (length replies);
        count = refl;
        few = omega arith;
        answered = tells.answered;
        verdict = subst (IsVerdictOf (λ x. Unit {0}) w'.ending (length m'.replies.items)) (sym verdict_is) (at_end o w' (length m'.replies.items) told);
        alone = ap is_resting verdict_is ∙ alone o;
      } in
      let over : over_by w'.ending v ≡ event.Left ∷ [] = ap (over_by w'.ending) verdict_is ∙ left_behind w'.ending o in
      record {
        at = tt;
        runs_are = runs_more p lane 0 runs replies run m'.replies.items are is_run;
        told = append-nil (runs_events p (runs ++ run ∷ []) (replies ++ m'.replies.items))
            ∙ (events_more p lane 0 runs replies run m'.replies.items are refl
            ∙ (ap (λ x. base ++ (answers_of w'.answered ++ x)) over
            ∙ (sym (append_assoc base (answers_of w'.answered) (event.Left ∷ [])) ∙ ap (λ x. x ++ event.Left ∷ []) (answers_on reply (Done o) awaited tells base))));
        asks = refl;
        postable = tt;
        goes_on = tt;
        on = (refl, refl);
        members = append-nil (members_of (runs ++ run ∷ [])) ∙ (members_more runs run ∙ ap (λ k. members_of runs ++ k ∷ []) (ap (λ x. x.0) tells.member));
        fewer = λ k. omega arith;
      }

-- ---- the open question is lost

pub record Loses (p : Program) (lane : ℕ) (runs : List MemberRun) (replies : List Reply) (m : Machine) (x : Cause) (runs' : List MemberRun) (replies' : List Reply) : Type 0 where
  pub runs_are : AreRuns p lane 0 runs' replies'
  pub told : runs_events p runs' replies' ++ [] ≡ with_loss (runs_events p runs replies ++ answers_of (walk (member_tree p m.member.0) (given m)).answered) (open_in m.phase) x
  pub members : members_of runs' ++ [] ≡ members_of runs ++ m.member.0 ∷ []
  pub fewer : (k : ℕ) → left_at k stage'.Between ≤ left_at k (stage'.Asked m)

pub loses : (p : Program) (lane : ℕ) (runs : List MemberRun) (replies : List Reply) (m : Machine) (x : Cause) → IsMember p m → awaits m.phase ≡ true → AreRuns p lane 0 runs replies
    → Loses p lane runs replies m x (runs ++ run_of lane (length replies) m (verdict.Fault x) ∷ []) (replies ++ m.replies.items)
loses p lane runs replies m x is awaited are =
    let w = walk (member_tree p m.member.0) (given m) in
    let base = runs_events p runs replies in
    let run = run_of lane (length replies) m (verdict.Fault x) in
    let some = open_some m.phase awaited in
    let few = is.few in
    let due : w.ending ≡ Open some.0 = subst (λ (o : Option Question). IsOpenAt o w.ending) some.1 is.due in
    let is_run : IsRun p lane (0 + length replies) run m.replies.items = record {
      own_lane = refl;
      child = refl;
      first_is = zero_on (length replies);
      count = refl;
      few = omega arith;
      answered = is.answered;
      verdict = (tt, few, some.0, due);
      alone = refl;
    } in
    record {
      runs_are = runs_more p lane 0 runs replies run m.replies.items are is_run;
      told = append-nil (runs_events p (runs ++ run ∷ []) (replies ++ m.replies.items))
          ∙ (events_more p lane 0 runs replies run m.replies.items are refl
          ∙ (ap (λ (e : Ends). base ++ (answers_of w.answered ++ over_by e (verdict.Fault x))) due
          ∙ (sym (append_assoc base (answers_of w.answered) (event.Lost some.0 x ∷ [])) ∙ ap (λ (o : Option Question). with_loss (base ++ answers_of w.answered) o x) (sym some.1))));
      members = append-nil (members_of (runs ++ run ∷ [])) ∙ members_more runs run;
      fewer = λ k. omega arith;
    }

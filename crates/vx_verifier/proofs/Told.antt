-- What the links of a lane tell of its events is what its runs say.
use Rattle.std.proofs.Common.{◌≡◌, ℕ, ◌+◌, ◌<◌, ◌≤◌, ◌||◌, Bool, true, false, ◌++◌, ◌∷◌, [], List, Some, length, map, take, drop, refl, ap, ap₂, ◌∙◌, sym, subst, append_assoc, append-nil, arith}
use Rattle.vx_ast.specs.Syntax.{Program}
use Rattle.vx_smt_meaning.specs.Dialogues.{Check}
use Rattle.vx_smt_meaning.specs.declared.reply.Reply.{Reply}
use Rattle.vx_smt_meaning.specs.declared.reply.Reply.TheVariants.{Unsat, Sat, Unknown}
use Rattle.vx_ends.specs.declared.piece.Ending.{Ending}
use Rattle.vx_rules.specs.Trees.{Question, Answered, Ending as Ends, Passed, Failed, Open, Tree, End, Impossible, On, Step, Ask, Probe, Fork, Walked, walk, walk_then, passed}
use Rattle.vx_machine.specs.Runs.{member_tree}
use Rattle.vx_dialogue.specs.Turns.{Turn, Asks}
use Rattle.vx_pool.specs.Events.{Event}
use Rattle.vx_pool.specs.Events as event
use Rattle.vx_report.specs.declared.run.Cause.{Cause}
use Rattle.vx_report.specs.declared.run.Cause.TheVariants as cause
use Rattle.vx_report.specs.declared.run.Verdict.{Verdict}
use Rattle.vx_report.specs.declared.run.Verdict.TheVariants as verdict
use Rattle.vx_report.specs.declared.run.MemberRun.{MemberRun}
use Rattle.vx_report.specs.Reports.{is_faulted, is_resting}
use Rattle.vx_verifier.specs.Sequences.{IsCheckOf, AreChecksOf, reply_list, replies_to}
use Rattle.vx_verifier.specs.Causes.{HasCauseOf}
use Rattle.vx_verifier.specs.Headline.{IsVerdictOf, IsTold, IsRunOf, AreTold, IsSpentAfter, asks_of, failed_turn, left_turn, member_turns, turns_of, lost_after, is_open, has_question, some_ask, members_of, walk_of}
use Rattle.vx_verifier.specs.Lanes.{turns_in, answered_in, has_lost, has_asked, AreCaused}
use Rattle.vx_verifier.specs.Members.{answers_of, loss_at, over_by, run_events, runs_events, IsRun, AreRuns}
use Rattle.vx_verifier.proofs.Events.{or_false, or_true, or_assoc, answered_join, lost_join, asked_join, turns_join, caused_split}
use Rattle.vx_verifier.proofs.Runs.{own_front}
use Rattle.vx_verifier.proofs.Walks.{walk_extends}

-- ---- the questions that were answered

answers_answered : (as' : List Answered) → answered_in (answers_of as') ≡ as'
answers_answered [] = refl
answers_answered (a ∷ as') = ap (λ l. a ∷ l) (answers_answered as')

over_answers_none : (e : Ends) (v : Verdict) → answered_in (over_by e v) ≡ []
over_answers_none e verdict.Verified = refl
over_answers_none e (verdict.Failed place c r) = refl
over_answers_none e (verdict.Rests m) = refl
over_answers_none e verdict.Limit = refl
over_answers_none (Open q) (verdict.Fault x) = refl
over_answers_none Passed (verdict.Fault x) = refl
over_answers_none (Failed place c r) (verdict.Fault x) = refl

run_answered : (w : Walked) (v : Verdict) → answered_in (answers_of w.answered ++ over_by w.ending v) ≡ w.answered
run_answered w v =
    answered_join (answers_of w.answered) (over_by w.ending v) ∙ (ap₂ (λ xs ys. xs ++ ys) (answers_answered w.answered) (over_answers_none w.ending v) ∙ append-nil w.answered)

pub checks_split : (as' bs : List Answered) (cs : List Check) → AreChecksOf (as' ++ bs) cs → (own rest : List Check) × (cs ≡ own ++ rest) × AreChecksOf as' own × AreChecksOf bs rest
checks_split [] bs cs h = ([], cs, refl, tt, h)
checks_split (a ∷ as') bs [] h = absurd h
checks_split (a ∷ as') bs (c ∷ cs) h = let more = checks_split as' bs cs h.1 in (c ∷ more.0, more.1, ap (λ l. c ∷ l) more.2, (h.0, more.3), more.4)

replies_are : (as' : List Answered) (cs : List Check) → AreChecksOf as' cs → replies_to cs ≡ map (λ a. a.reply) as'
replies_are [] [] h = refl
replies_are [] (c ∷ cs) h = absurd h
replies_are (a ∷ as') [] h = absurd h
replies_are (a ∷ as') (c ∷ cs) h = ap (λ o. reply_list o ++ replies_to cs) h.0.reply ∙ ap (λ l. a.reply ∷ l) (replies_are as' cs h.1)

same_length : (as' : List Answered) (cs : List Check) → AreChecksOf as' cs → length cs ≡ length as'
same_length [] [] all = refl
same_length [] (c ∷ cs) all = absurd all
same_length (a ∷ as') [] all = absurd all
same_length (a ∷ as') (c ∷ cs) all = let h = same_length as' cs all.1 in omega arith

none_checks : (cs : List Check) → AreChecksOf [] cs → cs ≡ []
none_checks [] h = refl
none_checks (c ∷ cs) h = absurd h

map_length : {A B : Type 0} (f : A → B) (xs : List A) → length (map f xs) ≡ length xs
map_length f [] = refl
map_length f (x ∷ xs) = let h = map_length f xs in omega arith

-- ---- what the child is asked

turns_answers : (lost : Bool) (as' : List Answered) → turns_in lost (answers_of as') ≡ asks_of as'
turns_answers lost [] = refl
turns_answers lost (a ∷ as') = ap (λ l. Asks a.question.path a.question.condition ∷ l) (turns_answers lost as')

answers_lose_none : (as' : List Answered) → has_lost (answers_of as') ≡ false
answers_lose_none [] = refl
answers_lose_none (a ∷ as') = answers_lose_none as'

turns_lost : (lost : Bool) (e : Ends) (q : Question) (x : Cause) → e ≡ Open q → turns_in lost (over_by e (verdict.Fault x)) ≡ failed_turn lost e (verdict.Fault x) ++ left_turn (lost || true)
turns_lost lost e q x is =
    subst (λ (o : Ends). turns_in lost (over_by o (verdict.Fault x)) ≡ failed_turn lost o (verdict.Fault x) ++ left_turn (lost || true)) (sym is) (here lost)
  where
    here : (lost : Bool) → turns_in lost (over_by (Open q) (verdict.Fault x)) ≡ failed_turn lost (Open q) (verdict.Fault x) ++ left_turn (lost || true)
    here true = refl
    here false = refl

turns_over : (C : Cause → Type 0) (lost : Bool) (e : Ends) (asked : ℕ) (v : Verdict) → IsVerdictOf C e asked v → turns_in lost (over_by e v) ≡ failed_turn lost e v ++ left_turn (lost || is_faulted v)
turns_over C true e asked verdict.Verified has = refl
turns_over C false e asked verdict.Verified has = refl
turns_over C true e asked (verdict.Failed place c r) has = refl
turns_over C false e asked (verdict.Failed place c r) has = refl
turns_over C true e asked (verdict.Rests m) has = refl
turns_over C false e asked (verdict.Rests m) has = refl
turns_over C true e asked verdict.Limit has = refl
turns_over C false e asked verdict.Limit has = refl
turns_over C lost e asked (verdict.Fault x) has = turns_lost lost e has.2 x has.3

lost_over : (C : Cause → Type 0) (e : Ends) (asked : ℕ) (v : Verdict) → IsVerdictOf C e asked v → has_lost (over_by e v) ≡ is_faulted v
lost_over C e asked verdict.Verified has = refl
lost_over C e asked (verdict.Failed place c r) has = refl
lost_over C e asked (verdict.Rests m) has = refl
lost_over C e asked verdict.Limit has = refl
lost_over C e asked (verdict.Fault x) has = ap (λ (o : Ends). has_lost (over_by o (verdict.Fault x))) has.3

lost_run : (C : Cause → Type 0) (w : Walked) (asked : ℕ) (v : Verdict) → IsVerdictOf C w.ending asked v → has_lost (answers_of w.answered ++ over_by w.ending v) ≡ is_faulted v
lost_run C w asked v has =
    lost_join (answers_of w.answered) (over_by w.ending v) ∙ (ap (λ b. b || has_lost (over_by w.ending v)) (answers_lose_none w.answered) ∙ lost_over C w.ending asked v has)

turns_run : (C : Cause → Type 0) (lost : Bool) (w : Walked) (asked : ℕ) (v : Verdict) → IsVerdictOf C w.ending asked v
    → turns_in lost (answers_of w.answered ++ over_by w.ending v) ≡ (asks_of w.answered ++ failed_turn lost w.ending v) ++ left_turn (lost || is_faulted v)
turns_run C lost w asked v has =
    let over = over_by w.ending v in
    turns_join lost (answers_of w.answered) over
    ∙ (ap₂ (λ xs ys. xs ++ ys) (turns_answers lost w.answered) (ap (λ b. turns_in (lost || b) over) (answers_lose_none w.answered) ∙ (ap (λ b. turns_in b over) (or_false lost) ∙ turns_over C lost w.ending asked v has))
    ∙ sym (append_assoc (asks_of w.answered) (failed_turn lost w.ending v) (left_turn (lost || is_faulted v))))

-- ---- causes

module _ (links : List Ending) (f g : ℕ) where
  cause_at : (lost : Bool) (as' : List Answered) (q : Question) (x : Cause) → AreCaused links f g lost (answers_of as' ++ event.Lost q x ∷ []) → HasCauseOf links f g lost x
  cause_at lost [] q x c = c.0
  cause_at lost (a ∷ as') q x c = cause_at lost as' q x c.1

  silent_at : (as' : List Answered) (over : List (Event Cause)) → AreCaused links f g true (answers_of as' ++ over) → as' ≡ []
  silent_at [] over c = refl
  silent_at (a ∷ as') over c = let no = c.0 in cc

  verdict_caused : (lost : Bool) (as' : List Answered) (e : Ends) (asked : ℕ) (v : Verdict) → IsVerdictOf (λ x. Unit {0}) e asked v → AreCaused links f g lost (answers_of as' ++ over_by e v)
      → IsVerdictOf (HasCauseOf links f g lost) e asked v
  verdict_caused lost as' e asked verdict.Verified has c = has
  verdict_caused lost as' e asked (verdict.Failed place d r) has c = has
  verdict_caused lost as' e asked (verdict.Rests m) has c = has
  verdict_caused lost as' e asked verdict.Limit has c = has
  verdict_caused lost as' e asked (verdict.Fault x) has c =
      (cause_at lost as' has.2 x (subst (λ (o : Ends). AreCaused links f g lost (answers_of as' ++ loss_at o x)) has.3 c), has.1, has.2, has.3)

  spent_verdict : (e : Ends) (v : Verdict) → IsVerdictOf (HasCauseOf links f g true) e 0 v → is_open e ≡ true → v ≡ verdict.Fault cause.Spent
  spent_verdict e verdict.Verified has asks = let h = ap is_open has in cc
  spent_verdict e (verdict.Failed place c r) has asks = let h = ap is_open has in cc
  spent_verdict e (verdict.Rests m) has asks = let h = ap is_open has in cc
  spent_verdict e verdict.Limit has asks = let h = has.0 in absurd (omega arith)
  spent_verdict e (verdict.Fault cause.Pipe) has asks = let h = has.0.0 in cc
  spent_verdict e (verdict.Fault cause.Start) has asks = let h = has.0.0 in cc
  spent_verdict e (verdict.Fault cause.Spent) has asks = refl
  spent_verdict e (verdict.Fault (cause.Reply kept)) has asks = let h = has.0.0 in cc

  spent_after : (p : Program) (n : ℕ) (lost : Bool) (own : List Check) (v : Verdict) → IsTold p n (HasCauseOf links f g lost) own v → (lost ≡ true → own ≡ []) → IsSpentAfter lost p n own v
  spent_after p n false own v told silent = tt
  spent_after p n true own v told silent =
      let none = silent refl in (
        none,
        λ asks. spent_verdict (walk_of p n []).ending v (subst (λ o. IsVerdictOf (HasCauseOf links f g true) (walk_of p n o).ending (length o) v) none told.verdict) asks,
      )

-- ---- all runs of a lane

record Joins (p : Program) (links : List Ending) (f g lane : ℕ) (lost : Bool) (first : ℕ) (runs : List MemberRun) (replies : List Reply) (checks : List Check) : Type 0 where
  told : AreTold p links f g lane lost first runs checks
  turns : turns_in lost (runs_events p runs replies) ≡ turns_of lost p runs checks

module _ (p : Program) (links : List Ending) (f g lane : ℕ) where
  joins : (lost : Bool) (first : ℕ) (runs : List MemberRun) (replies : List Reply) (checks : List Check) → AreRuns p lane first runs replies
      → AreChecksOf (answered_in (runs_events p runs replies)) checks → AreCaused links f g lost (runs_events p runs replies) → Joins p links f g lane lost first runs replies checks
  joins lost first [] replies checks are answered caused = record { told = none_checks checks answered; turns = refl }
  joins lost first (r ∷ runs) replies checks are answered caused =
      let n = r.member.0 in
      let v = r.verdict in
      let given = take r.checks replies in
      let behind = runs_events p runs (drop r.checks replies) in
      let run = are.0 in
      let w = walk (member_tree p n) given in
      let here = run_events p r given in
      let split = checks_split w.answered (answered_in behind) checks (subst (λ as'. AreChecksOf as' checks) (answered_join here behind ∙ ap (λ l. l ++ answered_in behind) (run_answered w v)) answered) in
      let own = split.0 in
      let rest = split.1 in
      let causes = caused_split links f g lost here behind caused in
      let w_is : walk_of p n own ≡ w = ap (walk (member_tree p n)) (replies_are w.answered own split.3 ∙ run.answered) in
      let count : length own ≡ r.checks = same_length w.answered own split.3 ∙ (sym (map_length (λ (a : Answered). a.reply) w.answered) ∙ (ap length run.answered ∙ run.count)) in
      let C : Cause → Type 0 = HasCauseOf links f g lost in
      let told : IsTold p n C own v = record {
        checks = subst (λ (u : Walked). AreChecksOf u.answered own) (sym w_is) split.3;
        few = subst (λ k. k ≤ 100000) (sym count) run.few;
        verdict = subst (λ (u : Walked). IsVerdictOf C u.ending (length own) v) (sym w_is)
            (subst (λ k. IsVerdictOf C w.ending k v) (sym count) (verdict_caused links f g lost w.answered w.ending r.checks v run.verdict causes.0));
      } in
      let silent : lost ≡ true → own ≡ [] = λ is.
      none_checks own (subst (λ as'. AreChecksOf as' own) (silent_at links f g w.answered (over_by w.ending v) (subst (λ b. AreCaused links f g b here) is causes.0)) split.3) in
      let lost_here = lost_run (λ x. Unit {0}) w r.checks v run.verdict in
      let gone = lost || is_faulted v in
      let later = joins gone (first + length own) runs (drop r.checks replies) rest (subst (λ k. AreRuns p lane (first + k) runs (drop r.checks replies)) (sym count) are.1) split.4
      (subst (λ b. AreCaused links f g (lost || b) behind) lost_here causes.1) in
      let front = own_front r.checks checks own rest split.2 count in
      let ours : turns_in lost here ≡ member_turns lost p n own v =
      turns_run (λ x. Unit {0}) lost w r.checks v run.verdict ∙ ap (λ (u : Walked). (asks_of u.answered ++ failed_turn lost u.ending v) ++ left_turn gone) (sym w_is) in
      let theirs : turns_in (lost || has_lost here) behind ≡ turns_of gone p runs rest = ap (λ b. turns_in (lost || b) behind) lost_here ∙ later.turns in
      record {
        told = (
          own,
          rest,
          split.2,
          record { own_lane = run.own_lane; child = run.child; first_is = run.first_is; count = count; told = told; spent = spent_after links f g p n lost own v told silent },
          later.told,
        );
        turns = turns_join lost here behind ∙ (ap₂ (λ xs ys. xs ++ ys) ours theirs
            ∙ sym (ap (λ x. member_turns lost p n x v ++ turns_of gone p runs (drop r.checks checks)) front.0 ∙ ap (λ x. member_turns lost p n own v ++ turns_of gone p runs x) front.1));
      }

  pub told_runs : (runs : List MemberRun) (replies : List Reply) (checks : List Check) → AreRuns p lane 0 runs replies → AreChecksOf (answered_in (runs_events p runs replies)) checks
      → AreCaused links f g false (runs_events p runs replies) → AreTold p links f g lane false 0 runs checks
  told_runs runs replies checks are answered caused = (joins false 0 runs replies checks are answered caused).told

  pub turns_runs : (runs : List MemberRun) (replies : List Reply) (checks : List Check) → AreRuns p lane 0 runs replies → AreChecksOf (answered_in (runs_events p runs replies)) checks
      → AreCaused links f g false (runs_events p runs replies) → turns_in false (runs_events p runs replies) ≡ turns_of false p runs checks
  turns_runs runs replies checks are answered caused = (joins false 0 runs replies checks are answered caused).turns

lost_by : (p : Program) (lane : ℕ) (lost : Bool) (first : ℕ) (runs : List MemberRun) (replies : List Reply) → AreRuns p lane first runs replies → (lost || has_lost (runs_events p runs replies)) ≡ lost_after lost runs
lost_by p lane lost first [] replies are = or_false lost
lost_by p lane lost first (r ∷ runs) replies are =
    let given = take r.checks replies in
    let behind = runs_events p runs (drop r.checks replies) in
    ap (λ b. lost || b) (lost_join (run_events p r given) behind ∙ ap (λ b. b || has_lost behind) (lost_run (λ x. Unit {0}) (walk (member_tree p r.member.0) given) r.checks r.verdict are.0.verdict))
    ∙ (or_assoc lost (is_faulted r.verdict) (has_lost behind) ∙ lost_by p lane (lost || is_faulted r.verdict) (first + r.checks) runs (drop r.checks replies) are.1)

pub lost_runs : (p : Program) (lane : ℕ) (runs : List MemberRun) (replies : List Reply) → AreRuns p lane 0 runs replies → has_lost (runs_events p runs replies) ≡ lost_after false runs
lost_runs p lane runs replies are = lost_by p lane false 0 runs replies are

-- ---- whether something was asked

-- where a walk has answered a question, it opens with one
abbrev Opens : (List Reply → Walked) → Type 0
Opens next = (rs : List Reply) (a : Answered) (as' : List Answered) → (next rs).answered ≡ a ∷ as' → is_open (next []).ending ≡ true

through : (t : Tree) (next : List Reply → Walked) → Opens next → Opens (walk_then t next)
through End next e = e
through (Impossible s) next e = e
through (On t s) next e = e
through (Step t) next e = through t next e
through (Fork a b) next e = through a (walk_then b next) (through b next e)
through (Ask q t) next e = λ rs a as' is. refl
through (Probe q a b) next e = λ rs c as' is. refl

passed_opens : Opens passed
passed_opens rs a as' is = cc

asked_over : (p : Program) (n : ℕ) (C : Cause → Type 0) (e : Ends) (v : Verdict) → IsVerdictOf C e 0 v → is_resting v ≡ false → has_asked (over_by e v) ≡ is_open e
asked_over p n C e verdict.Verified has alone = sym (ap is_open has)
asked_over p n C e (verdict.Failed place c r) has alone = sym (ap is_open has)
asked_over p n C e (verdict.Rests m) has alone = absurd (cc)
asked_over p n C e verdict.Limit has alone = let h = has.0 in absurd (omega arith)
asked_over p n C e (verdict.Fault x) has alone = ap (λ (o : Ends). has_asked (over_by o (verdict.Fault x))) has.3 ∙ sym (ap is_open has.3)

asked_run : (p : Program) (lane first : ℕ) (r : MemberRun) (own : List Reply) → IsRun p lane first r own → has_asked (run_events p r own) ≡ has_question p r.member.0
asked_run p lane first r own run = by_answers (walk (member_tree p r.member.0) own).answered refl
  where
    t : Tree
    t = member_tree p r.member.0

    over : List (Event Cause)
    over = over_by (walk t own).ending r.verdict

    by_answers : (as' : List Answered) → (walk t own).answered ≡ as' → has_asked (answers_of (walk t own).answered ++ over) ≡ has_question p r.member.0
    by_answers (a ∷ as') is = ap (λ l. has_asked (answers_of l ++ over)) is ∙ sym (through t passed passed_opens own a as' is)
    by_answers [] is =
        let none : own ≡ [] = sym run.answered ∙ ap (map (λ (a : Answered). a.reply)) is in
        let zero_checks : r.checks ≡ 0 = sym run.count ∙ ap length none in
        let verdict_is = subst (λ k. IsVerdictOf (λ x. Unit {0}) (walk t own).ending k r.verdict) zero_checks run.verdict in
        ap (λ l. has_asked (answers_of l ++ over)) is ∙ (asked_over p r.member.0 (λ x. Unit {0}) (walk t own).ending r.verdict verdict_is run.alone ∙ ap (λ rs. is_open (walk t rs).ending) none)

asked_by : (p : Program) (lane first : ℕ) (runs : List MemberRun) (replies : List Reply) → AreRuns p lane first runs replies → has_asked (runs_events p runs replies) ≡ some_ask p (members_of runs)
asked_by p lane first [] replies are = refl
asked_by p lane first (r ∷ runs) replies are =
    let given = take r.checks replies in
    let behind = runs_events p runs (drop r.checks replies) in
    asked_join (run_events p r given) behind
    ∙ ap₂ (λ a b. a || b) (asked_run p lane first r given are.0) (asked_by p lane (first + r.checks) runs (drop r.checks replies) are.1)

pub asked_runs : (p : Program) (lane : ℕ) (runs : List MemberRun) (replies : List Reply) → AreRuns p lane 0 runs replies → has_asked (runs_events p runs replies) ≡ some_ask p (members_of runs)
asked_runs p lane runs replies are = asked_by p lane 0 runs replies are

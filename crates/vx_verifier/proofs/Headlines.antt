-- What is promised of all lanes, from what is so of each that is over.
use Rattle.std.proofs.Common.{◌≡◌, ◌⊎◌, ℕ, zero, suc, ◌+◌, ◌-◌, ◌^◌, ◌<◌, ◌≤◌, Bool, true, false, IsTrue, ◌++◌, ◌∷◌, [], List, length, map, if◌then◌else◌, refl, ap, ◌∙◌, sym, subst, append-nil, inl, inr, arith}
use Rattle.vx_ast.specs.Syntax.{Program, Member}
use Rattle.vx_terms.specs.Interpretations.{Each}
use Rattle.vx_smt_meaning.specs.Dialogues.{Check}
use Rattle.vx_smt_meaning.specs.declared.reply.Reply.{Reply}
use Rattle.vx_ends.specs.Causes.{Rose}
use Rattle.vx_ends.specs.declared.piece.Start.{Start}
use Rattle.vx_ends.specs.declared.piece.Ending.{Ending}
use Rattle.vx_dialogue.specs.Askable.{AreTurns}
use Rattle.vx_dialogue.specs.Scripts.{ScopedTurn, plain}
use Rattle.vx_machine.specs.Runs.{member_tree}
use Rattle.vx_live.specs.Functions.{function_symbols}
use Rattle.vx_report.specs.declared.run.Verdict.TheVariants as verdict
use Rattle.vx_report.specs.declared.run.MemberRun.{MemberRun}
use Rattle.vx_report.specs.Reports.{AreNamed, is_faulted, is_resting}
use Rattle.vx_law.specs.Law.{MembersAreSound}
use Rattle.vx_real.specs.Law.{RealLaw}
use Rattle.vx_runs.specs.Law.{WholeRunLaw}
use Rattle.vx_resting.specs.Resting.{AreLater, AreRested, NoneRests, has_passed}
use Rattle.vx_verifier.specs.Causes.{IsLawful, NoCountRose}
use Rattle.vx_verifier.specs.Dealt.{IsDealt, runs_in, links_in, starts_in, started_where, Starts}
use Rattle.vx_verifier.specs.Headline.{IsWhole, IsRecorded, turns_of, lost_after, members_of, some_ask, sequence_of, IsLane, Headline}
use Rattle.vx_verifier.specs.Lanes.{AreCaused, Records, turns_in, has_lost, has_asked, IsBack, IsOver, IsToldOf}
use Rattle.vx_verifier.specs.Lines.{has_line, lines_from, lines}
use Rattle.vx_verifier.specs.Members.{IsRun, AreRuns, runs_events}
use Rattle.vx_verifier.specs.Outsets.{Hub, Outset, Later}
use Rattle.vx_verifier.specs.Sequences.{IsIn, AllUnsat}
use Rattle.vx_verifier.specs.Verifying.{AreBack, AreOver}
use Rattle.vx_verifier.proofs.Askable.{AllAsk, turns_ask}
use Rattle.vx_verifier.proofs.Closures.{Sequenced, sequenced, IsWalked, is_walked, sound}
use Rattle.vx_verifier.proofs.Complete.{none_faulted, has_passed_by, all_verified}
use Rattle.vx_verifier.proofs.Dealt.{each_own, in_own, dealt_below, dealt_later, own_later, each_link, all_links}
use Rattle.vx_verifier.proofs.Fit.{well_formed}
use Rattle.vx_verifier.proofs.FunctionSymbols.{are_symbols}
use Rattle.vx_verifier.proofs.Real.{real}
use Rattle.vx_verifier.proofs.Rested.{all_told, turns_rest, lost_rests, members_rest, named_rest}
use Rattle.vx_verifier.proofs.Runs.{cancelled, zero_on}
use Rattle.vx_verifier.proofs.Sequences.{each_in, in_each}
use Rattle.vx_verifier.proofs.Sorted.{IsFine, script_sorted}
use Rattle.vx_verifier.proofs.Told.{told_runs, turns_runs, lost_runs, asked_runs}
use Rattle.vx_verifier.proofs.WholeRuns.{keeps_whole_runs}

pub decide : (a b : ℕ) → (a < b) ⊎ (b ≤ a)
decide a zero = inr (omega arith)
decide zero (suc b) = inl (omega arith)
decide (suc a) (suc b) = elim (decide a b) [ inl h ↦ inl (omega arith) | inr h ↦ inr (omega arith) ]

not_both : (a b : ℕ) → a < b → b ≤ a → ⊥
not_both a b less more = omega arith

-- ---- the members of all runs

lines_below : (n : ℕ) (p : Program) → Each (λ (k : ℕ). k < n + length p) (lines_from n p)
lines_below n [] = tt
lines_below n (m ∷ p) = by_line (weaker (lines_from (n + 1) p) (lines_below (n + 1) p)) (has_line m.kind) refl
  where
    weaker : (ks : List ℕ) → Each (λ (k : ℕ). k < (n + 1) + length p) ks → Each (λ (k : ℕ). k < n + length (m ∷ p)) ks
    weaker [] all = tt
    weaker (k ∷ ks) all = (let h = all.0 in omega arith, weaker ks all.1)

    by_line : Each (λ (k : ℕ). k < n + length (m ∷ p)) (lines_from (n + 1) p) → (b : Bool) → has_line m.kind ≡ b → Each (λ (k : ℕ). k < n + length (m ∷ p)) (lines_from n (m ∷ p))
    by_line behind true is = subst (λ (b : Bool). Each (λ (k : ℕ). k < n + length (m ∷ p)) (if b then n ∷ lines_from (n + 1) p else lines_from (n + 1) p)) (sym is) (omega arith, behind)
    by_line behind false is = subst (λ (b : Bool). Each (λ (k : ℕ). k < n + length (m ∷ p)) (if b then n ∷ lines_from (n + 1) p else lines_from (n + 1) p)) (sym is) behind

each_named : (p : Program) (runs : List MemberRun) → Each (λ (k : ℕ). k < length p) (members_of runs) → AreNamed p runs
each_named p [] all n d below = absurd (omega arith)
each_named p (r ∷ runs) all zero d below = all.0
each_named p (r ∷ runs) all (suc n) d below = each_named p runs all.1 n d (let k = below in omega arith)

pub named_lines : (p : Program) (runs : List MemberRun) → members_of runs ≡ lines p → AreNamed p runs
named_lines p runs is = each_named p runs (subst (Each (λ (k : ℕ). k < length p)) (sym is) (subst (λ n. Each (λ (k : ℕ). k < n) (lines p)) (sym (zero_on (length p))) (lines_below 0 p)))

alone_runs : (p : Program) (lane first : ℕ) (runs : List MemberRun) (replies : List Reply) → AreRuns p lane first runs replies → Each (λ (r : MemberRun). is_resting r.verdict ≡ false) runs
alone_runs p lane first [] replies are = tt
alone_runs p lane first (r ∷ runs) replies are = (are.0.alone, alone_runs p lane (first + r.checks) runs _ are.1)

pub none_rests : (o : Outset) (h : Hub) (runs : List MemberRun) → 0 < o.jobs → AreOver o h runs → NoneRests runs
none_rests o h runs some over =
    let below = dealt_below o.jobs 0 runs some over.dealt in
    in_each (λ (r : MemberRun). is_resting r.verdict ≡ false) runs (λ r inside.
    let lane = over.lanes r.lane (each_in (λ (q : MemberRun). q.lane < o.jobs) runs r below inside) in
    each_in (λ (q : MemberRun). is_resting q.verdict ≡ false) (runs_in r.lane runs) r (alone_runs o.program r.lane 0 (runs_in r.lane runs) lane.replies lane.runs_are) (in_own r runs inside))

-- ---- one lane

-- what a lane says, once its members rest
record Says (p : Program) (links : List Ending) (f g lane : ℕ) (runs : List MemberRun) : Type 0 where
  turns : List ScopedTurn
  checks : List Check
  is : IsLane p links f g lane turns checks runs

says : (o : Outset) (h : Hub) (since : List Ending) → h.ended ≡ o.first.ended ++ since → ((k : ℕ) → AllAsk (IsFine (function_symbols o.program)) (member_tree o.program k))
    → (lane : ℕ) (own rested : List MemberRun) → AreLater own rested → IsOver o h lane own → Says o.program (links_in lane since) o.first.faults h.faults lane rested
says o h since ended fine lane own rested later over =
    let p = o.program in
    let functions = function_symbols p in
    let links = links_in lane since in
    let f = o.first.faults in
    let g = h.faults in
    let told = over.told in
    let checks = told.checks in
    let events = runs_events p own over.replies in
    let same : told.since ≡ since = cancelled o.first.ended told.since since (sym told.ended ∙ ended) in
    let caused : AreCaused links f g false events = subst (λ es. AreCaused (links_in lane es) f g false events) same told.caused in
    let recorded : Records functions (has_lost events) links (turns_in false events) checks = subst (λ es. Records functions (has_lost events) (links_in lane es) (turns_in false events) checks) same told.recorded in
    let own_told = told_runs p links f g lane own over.replies checks over.runs_are told.answered caused in
    let all = all_told p links f g lane false 0 own rested checks later own_told in
    let asked : map plain recorded.0 ≡ turns_of false p rested checks =
    recorded.1 ∙ (turns_runs p links f g lane own over.replies checks over.runs_are told.answered caused ∙ sym (turns_rest false p own rested checks later)) in
    let lost : has_lost events ≡ lost_after false rested = lost_runs p lane own over.replies over.runs_are ∙ sym (lost_rests false own rested later) in
    let askable : AreTurns (IsFine functions) (map plain recorded.0) =
    subst (AreTurns (IsFine functions)) (sym asked) (turns_ask (IsFine functions) p links f g lane fine false 0 rested checks all) in
    record {
      turns = recorded.0;
      checks = checks;
      is = record {
        asked = asked;
        recorded = subst (λ b. IsRecorded functions b links recorded.0 checks) lost recorded.2;
        well_formed = well_formed functions recorded.0 (are_symbols p) askable;
        sorted = script_sorted functions recorded.0 askable;
        told = all;
      };
    }

-- ---- all lanes

module _ (p : Program) (since : List Ending) (f g jobs : ℕ) (runs : List MemberRun) (lanes : (lane : ℕ) → lane < jobs → Says p (links_in lane since) f g lane (runs_in lane runs)) where
  abbrev checks_at : (lane : ℕ) → (lane < jobs) ⊎ (jobs ≤ lane) → List Check
  checks_at lane (inl below) = (lanes lane below).checks
  checks_at lane (inr above) = []

  abbrev turns_at : (lane : ℕ) → (lane < jobs) ⊎ (jobs ≤ lane) → List ScopedTurn
  turns_at lane (inl below) = (lanes lane below).turns
  turns_at lane (inr above) = []

  lane_at : (lane : ℕ) → lane < jobs → (d : (lane < jobs) ⊎ (jobs ≤ lane)) → IsLane p (links_in lane since) f g lane (turns_at lane d) (checks_at lane d) (runs_in lane runs)
  lane_at lane below (inl b) = (lanes lane b).is
  lane_at lane below (inr above) = absurd (not_both lane jobs below above)

pub headline : MembersAreSound → RealLaw → WholeRunLaw → (o : Outset) (h : Hub) → Later o o.first h → 0 < o.jobs → IsWhole o.program
    → ((k : ℕ) → AllAsk (IsFine (function_symbols o.program)) (member_tree o.program k)) → (own rested : List MemberRun) → AreLater own rested → AreRested o.program rested → AreOver o h own
    → Headline o.program o.jobs o.first.ended h.ended o.first.faults h.faults rested
headline law real_law runs_law o h later some whole fine own rested rest is_rested over =
    let p = o.program in
    let jobs = o.jobs in
    let since = later.links in
    let f = o.first.faults in
    let g = h.faults in
    let dealt = dealt_later jobs 0 own rested rest over.dealt in
    let each = members_rest own rested rest ∙ over.members in
    let named = named_rest p own rested rest (named_lines p own over.members) in
    let says_of : (lane : ℕ) → lane < jobs → Says p (links_in lane since) f g lane (runs_in lane rested) = λ lane below.
    says o h since later.ended fine lane (runs_in lane own) (runs_in lane rested) (own_later lane own rested rest) (over.lanes lane below) in
    let checks : (lane : ℕ) → List Check = λ lane. checks_at p since f g jobs rested says_of lane (decide lane jobs) in
    let turns : (lane : ℕ) → List ScopedTurn = λ lane. turns_at p since f g jobs rested says_of lane (decide lane jobs) in
    let lanes : (lane : ℕ) → lane < jobs → IsLane p (links_in lane since) f g lane (turns lane) (checks lane) (runs_in lane rested) = λ lane below.
    lane_at p since f g jobs rested says_of lane below (decide lane jobs) in
    let below = dealt_below jobs 0 rested some dealt in
    let near : (r : MemberRun) → IsIn r rested → r.lane < jobs = λ r inside. each_in (λ (q : MemberRun). q.lane < jobs) rested r below inside in
    let at : (r : MemberRun) → IsIn r rested → Sequenced p (links_in r.lane since) f g r.lane checks r = λ r inside.
    each_in (Sequenced p (links_in r.lane since) f g r.lane checks) (runs_in r.lane rested) r
    (sequenced p (links_in r.lane since) f g r.lane checks (runs_in r.lane rested) (lanes r.lane (near r inside)).told) (in_own r rested inside) in
    let walked : Each (IsWalked p checks) rested = in_each (IsWalked p checks) rested (λ r inside. is_walked p (links_in r.lane since) f g r.lane checks r (at r inside)) in
    let safe = sound law p whole checks rested walked each is_rested in
    record {
      checks = checks;
      turns = turns;
      since = since;
      is = later.ended;
      within = later.links_within;
      each = each;
      dealt = dealt;
      lanes = lanes;
      rested = is_rested;
      sound = safe;
      whole_runs = keeps_whole_runs runs_law p whole jobs rested checks each below safe;
      real = real real_law p whole checks rested walked;
      complete = record {
        no_fault = λ calm lawful. in_each (λ (r : MemberRun). is_faulted r.verdict ≡ false) rested (λ r inside.
            each_in (λ (q : MemberRun). is_faulted q.verdict ≡ false) (runs_in r.lane rested) r
            (none_faulted p (links_in r.lane since) f g r.lane calm.starts (each_link (λ (e : Ending). e.faults ≡ 0) r.lane since (calm.links since later.ended))
            (each_link (λ (e : Ending). IsLawful e.dialogue) r.lane since (lawful since later.ended)) 0 (runs_in r.lane rested) (checks r.lane) (lanes r.lane (near r inside)).told)
            (in_own r rested inside));
        verified = λ fine_runs no_limit. all_verified p checks rested is_rested named (in_each (λ (r : MemberRun). AllUnsat (sequence_of r checks) → has_passed r.verdict ≡ true) rested (λ r inside.
            has_passed_by p (links_in r.lane since) f g r.lane checks r (at r inside) (each_in (λ (q : MemberRun). is_faulted q.verdict ≡ false) rested r fine_runs inside)
            (each_in (λ (q : MemberRun). q.verdict ≡ verdict.Limit → ⊥) rested r no_limit inside)));
      };
    }

-- ---- what the spawner shows at the end

pub back_first : (o : Outset) → AreBack o o.first
back_first o lane below = record {
  owed = refl;
  since = [];
  ended = sym (append-nil o.first.ended);
  starts = [];
  started = sym (append-nil o.first.starts);
  once = (false, refl);
  calm = λ steady. (refl, tt);
}

module _ (o : Outset) (h : Hub) (later : Later o o.first h) (back : AreBack o h) where
  pub starts_by : Starts o.jobs o.command o.first.starts h.starts (λ lane started. Unit {0})
  starts_by = record {
    since = later.starts;
    is = later.started;
    within = later.starts_within;
    each = λ lane below.
        let b = back lane below in
        let same : b.starts ≡ later.starts = cancelled o.first.starts b.starts later.starts (sym b.started ∙ later.started) in
        (b.once.0, subst (λ ss. starts_in lane ss ≡ started_where b.once.0 lane o.command) same b.once.1, tt);
  }

  pub started_by : (own rested : List MemberRun) → AreLater own rested → AreOver o h own
      → Starts o.jobs o.command o.first.starts h.starts (λ lane started. started ≡ some_ask o.program (members_of (runs_in lane rested)))
  started_by own rested rest over = record {
    since = later.starts;
    is = later.started;
    within = later.starts_within;
    each = λ lane below.
        let is_over = over.lanes lane below in
        let told = is_over.told in
        let events = runs_events o.program (runs_in lane own) is_over.replies in
        let same : told.starts ≡ later.starts = cancelled o.first.starts told.starts later.starts (sym told.started ∙ later.started) in (
          has_asked events,
          subst (λ ss. starts_in lane ss ≡ started_where (has_asked events) lane o.command) same told.once,
          asked_runs o.program lane (runs_in lane own) is_over.replies is_over.runs_are
              ∙ ap (some_ask o.program) (sym (members_rest (runs_in lane own) (runs_in lane rested) (own_later lane own rested rest))),
        );
  }

  pub handed_back : (lane : ℕ) → h.owed lane ≡ o.first.owed lane
  handed_back lane = elim (decide lane o.jobs) [ inl below ↦ (back lane below).owed | inr above ↦ later.owed lane above ]

  not_rose : o.first.faults < 2 ^ 64 - 1 → h.faults ≡ o.first.faults → Rose o.first.faults h.faults → ⊥
  not_rose room same rose = omega arith

  pub none_rose : 0 < o.jobs → IsTrue o.first.steady → o.first.faults < 2 ^ 64 - 1 → NoCountRose o.first.ended h.ended o.first.faults h.faults
  none_rose some steady room = record {
    starts = not_rose room ((back 0 some).calm steady).0;
    links = λ since is.
        let same : later.links ≡ since = cancelled o.first.ended later.links since (sym later.ended ∙ is) in
        subst (Each (λ (e : Ending). e.faults ≡ 0)) same (all_links (λ (e : Ending). e.faults ≡ 0) o.jobs later.links later.links_within (λ lane below.
        let b = back lane below in
        let here : b.since ≡ later.links = cancelled o.first.ended b.since later.links (sym b.ended ∙ later.ended) in
        subst (λ es. Each (λ (e : Ending). e.faults ≡ 0) (links_in lane es)) here (b.calm steady).1));
  }

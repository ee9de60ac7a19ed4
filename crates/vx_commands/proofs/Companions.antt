-- What is promised where the companion is asked: its unsats and its sats are right, and where it takes what is asserted it is never lost.
use Rattle.std.proofs.Common.{◌≡◌, inl, inr, ◌++◌, ℕ, zero, suc, ◌+◌, ◌<◌, ◌≤◌, Bool, true, false, nat_eq, List, [], ◌∷◌, Option, Some, None, Result, take, drop, refl, ◌∙◌, sym, subst, arith, eq-eqb}
use Rattle.std.specs.Prelude.{if◌then◌else◌}
use Rattle.std.specs.declared.alloc.AllocError.{AllocError}
use Rattle.std.proofs.Math.Logic.{∥∥₁_map}
use Rattle.std.proofs.Math.Nat.{mod-lt}
use Rattle.std.proofs.lemmas.List.{append_cancel_left}
use Rattle.std.proofs.lemmas.Result.{IfOk-weaker}
use Rattle.vx_ast.specs.Syntax.{Program}
use Rattle.vx_terms.specs.Interpretations.{Each}
use Rattle.vx_smt_meaning.specs.Dialogues.{Check}
use Rattle.vx_smt_meaning.specs.declared.reply.Reply.{Reply}
use Rattle.vx_smt_meaning.specs.declared.reply.Reply.TheVariants.{Unsat, Sat, Unknown}
use Rattle.vx_ends.specs.declared.piece.Piece.{Piece}
use Rattle.vx_ends.specs.declared.piece.Ending.{Ending}
use Rattle.vx_dialogue.specs.History.{Tells}
use Rattle.vx_dialogue.specs.Scripts.{ScopedTurn}
use Rattle.vx_live.specs.Functions.{function_symbols}
use Rattle.vx_report.specs.declared.run.MemberRun.{MemberRun}
use Rattle.vx_report.specs.declared.run.Verdict.TheVariants.{Verified}
use Rattle.cs_answer.specs.declared.answer.Cause.{Cause}
use Rattle.vx_companion.specs.declared.builtin.Builtin.{Builtin}
use Rattle.vx_companion.specs.Companion.{RepliesByCompanion, AllByCompanion}
use Rattle.vx_companion.specs.Right as companion
use Rattle.vx_companion.specs.Lawful.{IsTaken, HasLawfulReplies}
use Rattle.vx_companion.proofs.Ended as links
use Rattle.vx_companion.proofs.Rightly.{companion_right}
use Rattle.vx_companion.proofs.Lawful.{companion_lawful}
use Rattle.vx_runs.specs.Law.{NoWholeRunFails}
use Rattle.vx_verifier.specs.Sequences.{IsRight, IsPossible, LastIsPossible}
use Rattle.vx_verifier.specs.Causes.{IsLawful, AllLawful}
use Rattle.vx_verifier.specs.Dealt.{IsDealt, runs_in, links_in}
use Rattle.vx_verifier.specs.Headline.{Headline, IsLane, AreReal, NeverFails, Under, IsRecorded, sequence_of, script_of, lost_after}
use Rattle.vx_commands.specs.declared.output.Output.{Output}
use Rattle.vx_commands.specs.declared.reports.Telling.{Telling}
use Rattle.vx_commands.specs.Outside.{Change, Children, HandsBack, change, companions}
use Rattle.vx_commands.specs.Reports.{IsReport, IsCompanionReport, AllNeverFail, FailuresAreReal}
use Rattle.vx_commands.specs.Steps.{Asks}
use Rattle.vx_readable.specs.Numerals.{HasSmallNumerals}
use Rattle.vx_commands.proofs.Scripts.{script_sorted, script_fits}
use Rattle.vx_commands.proofs.Readable.{script_taken}

-- ---- parts of the checks

each_take : (P : Check → Type 0) (n : ℕ) (checks : List Check) → Each P checks → Each P (take n checks)
each_take P zero checks h = tt
each_take P (suc n) [] h = tt
each_take P (suc n) (c ∷ checks) h = (h.0, each_take P n checks h.1)

each_drop : (P : Check → Type 0) (n : ℕ) (checks : List Check) → Each P checks → Each P (drop n checks)
each_drop P zero checks h = h
each_drop P (suc n) [] h = tt
each_drop P (suc n) (c ∷ checks) h = each_drop P n checks h.1

-- their unsats alone
unsats_right : (checks : List Check) → Each companion.IsRight checks → Each IsRight checks
unsats_right [] h = tt
unsats_right (c ∷ checks) h = (h.0.unsat, unsats_right checks h.1)

-- ---- the checks of a lane

-- a run is dealt to one of so many lanes
abbrev AreWithin : ℕ → List MemberRun → Type 0
AreWithin jobs runs = Each (λ (r : MemberRun). r.lane < jobs) runs

dealt_within : (jobs : ℕ) → 1 ≤ jobs → (i : ℕ) (runs : List MemberRun) → IsDealt jobs i runs → AreWithin jobs runs
dealt_within jobs some i [] h = tt
dealt_within jobs some i (r ∷ runs) h = (subst (λ lane. lane < jobs) (sym h.0) (mod-lt i (omega (arith, some))), dealt_within jobs some (i + 1) runs h.1)

-- what holds of all checks of each of these lanes holds of those of a run
abbrev AllLanes : (Check → Type 0) → (jobs : ℕ) → ((lane : ℕ) → List Check) → Type 0
AllLanes P jobs checks = (lane : ℕ) → lane < jobs → Each P (checks lane)

own_checks : (P : Check → Type 0) (jobs : ℕ) (r : MemberRun) (checks : (lane : ℕ) → List Check) → r.lane < jobs → AllLanes P jobs checks → Each P (sequence_of r checks)
own_checks P jobs r checks within h = each_take P r.checks (drop r.first (checks r.lane)) (each_drop P r.first (checks r.lane) (h r.lane within))

all_under : (p : Program) (jobs n : ℕ) (runs : List MemberRun) (checks : (lane : ℕ) → List Check) → AreWithin jobs runs → AllLanes IsRight jobs checks
    → Under (λ own. Each IsRight own) p n runs checks
all_under p jobs n [] checks within h = tt
all_under p jobs n (r ∷ runs) checks within h = (λ leads. own_checks IsRight jobs r checks within.0 h, all_under p jobs n runs checks within.1 h)

sound_alone : (p : Program) (jobs : ℕ) (all runs : List MemberRun) (checks : (lane : ℕ) → List Check) → AreWithin jobs all → AllLanes IsRight jobs checks
    → Each (λ (r : MemberRun). r.verdict ≡ Verified → Under (λ own. Each IsRight own) p r.member.0 all checks → NeverFails p r.member.0) runs → AllNeverFail p runs
sound_alone p jobs all [] checks within right h = tt
sound_alone p jobs all (r ∷ runs) checks within right h =
    (λ verified. h.0 verified (all_under p jobs r.member.0 all checks within right), sound_alone p jobs all runs checks within right h.1)

-- ---- failures by a sat

-- a sat is right, or the reply is another
possible : (c : Check) (reply : Option Reply) → c.reply ≡ reply → companion.IsRight c → ∥ IsPossible c ∥₁
possible c (Some Sat) is right = ∥∥₁_map (right.sat is) (λ model asked. model)
possible c (Some Unsat) is right = ∣ (λ asked. absurd (cc)) ∣₁
possible c (Some Unknown) is right = ∣ (λ asked. absurd (cc)) ∣₁
possible c None is right = ∣ (λ asked. absurd (cc)) ∣₁

last_possible : (checks : List Check) → Each companion.IsRight checks → ∥ LastIsPossible checks ∥₁
last_possible [] right = ∣ tt ∣₁
last_possible (c ∷ []) right = possible c c.reply refl right.0
last_possible (c ∷ d ∷ checks) right = last_possible (d ∷ checks) right.1

real_alone : (p : Program) (jobs : ℕ) (runs : List MemberRun) (checks : (lane : ℕ) → List Check) → AreWithin jobs runs → AllLanes companion.IsRight jobs checks
    → AreReal p runs checks → FailuresAreReal p runs
real_alone p jobs [] checks within right h = tt
real_alone p jobs (r ∷ runs) checks within right h =
    let own = own_checks companion.IsRight jobs r checks within.0 right in (
      λ at c m f failed found kind inside. ∥∥₁_map (last_possible (sequence_of r checks) own) (λ last. h.0 at c m f failed found kind inside last),
      real_alone p jobs runs checks within.1 right h.1,
    )

-- ---- the links that were handed back

abbrev HasCauses : Ending → Type 0
HasCauses e = (causes : List Cause) × RepliesByCompanion e.dialogue causes

-- those that were handed back since
have_causes : (before since : List Ending) (causes : List (List Cause)) → AllByCompanion (before ++ since) causes → Each HasCauses since
have_causes [] [] causes all = tt
have_causes [] (e ∷ since) [] all = absurd all
have_causes [] (e ∷ since) (own ∷ causes) all = ((own, all.0), have_causes [] since causes all.1)
have_causes (b ∷ before) since [] all = absurd all
have_causes (b ∷ before) since (own ∷ causes) all = have_causes before since causes all.1

-- those of a lane are among them
in_lane : (P : Ending → Type 0) (lane : ℕ) (since : List Ending) → Each P since → Each P (links_in lane since)
in_lane P lane [] h = tt
in_lane P lane (e ∷ since) h = kept (nat_eq e.lane lane) (in_lane P lane since h.1)
  where
    kept : (own : Bool) → Each P (links_in lane since) → Each P (if own then e ∷ links_in lane since else links_in lane since)
    kept true rest = (h.0, rest)
    kept false rest = rest

-- and each is in its own lane
by_lanes : (P : Ending → Type 0) (jobs : ℕ) (since : List Ending) → Each (λ (e : Ending). e.lane < jobs) since → ((lane : ℕ) → lane < jobs → Each P (links_in lane since)) → Each P since
by_lanes P jobs [] within h = tt
by_lanes P jobs (e ∷ since) within h = (first (nat_eq e.lane e.lane) (eq-eqb e.lane e.lane refl) (h e.lane within.0), by_lanes P jobs since within.1 (λ lane l. others lane (nat_eq e.lane lane) (h lane l)))
  where
    first : (own : Bool) → own ≡ true → Each P (if own then e ∷ links_in e.lane since else links_in e.lane since) → P e
    first true is held = held.0
    first false is held = absurd (cc)

    others : (lane : ℕ) (own : Bool) → Each P (if own then e ∷ links_in lane since else links_in lane since) → Each P (links_in lane since)
    others lane true held = held.1
    others lane false held = held

-- ---- their records

is_lawful : (pieces : List Piece) → HasLawfulReplies pieces → IsLawful pieces
is_lawful pieces lawful kept (inl garbled) = (lawful kept).0 garbled
is_lawful pieces lawful kept (inr refused) = (lawful kept).1 refused

-- a lane whose link is the companion's
module _ (p : Program) (links : List Ending) (f g lane : ℕ) (turns : List ScopedTurn) (checks : List Check) (runs : List MemberRun) (h : IsLane p links f g lane turns checks runs) (have : Each HasCauses links) where
  own_cause : (e : Ending) → links ≡ e ∷ [] → HasCauses e
  own_cause e is = (subst (Each HasCauses) is have).0

  lane_rights : IsRecorded (function_symbols p) (lost_after false runs) links turns checks → Each companion.IsRight checks
  lane_rights (inl none) = subst (λ cs. Each companion.IsRight cs) (sym none.1) tt
  lane_rights (inr told) =
      let by = own_cause told.0 told.1 in
      companion_right (lost_after false runs) (script_of p turns) told.0.dialogue by.0 checks h.well_formed (script_sorted (function_symbols p) turns h.sorted) told.2 by.1

  lawful_by : (taken : Each IsTaken (script_of p turns)) (e : Ending) → links ≡ e ∷ [] → Tells (lost_after false runs) (script_of p turns) e.dialogue checks → HasLawfulReplies e.dialogue
  lawful_by taken e is tells =
      let by = own_cause e is in
      companion_lawful (lost_after false runs) (script_of p turns) e.dialogue by.0 checks h.well_formed
      (script_sorted (function_symbols p) turns h.sorted) taken (script_fits (function_symbols p) turns) tells by.1

  lane_lawful : Each IsTaken (script_of p turns) → IsRecorded (function_symbols p) (lost_after false runs) links turns checks → Each (λ (e : Ending). IsLawful e.dialogue) links
  lane_lawful taken (inl none) = subst (Each (λ (e : Ending). IsLawful e.dialogue)) (sym none.0) tt
  lane_lawful taken (inr told) =
      subst (Each (λ (e : Ending). IsLawful e.dialogue)) (sym told.1) (is_lawful told.0.dialogue (lawful_by taken told.0 told.1 told.2), tt)

module _ (p : Program) (jobs : ℕ) (some : 1 ≤ jobs) (before now : List Ending) (causes : List (List Cause)) (f g : ℕ) (runs : List MemberRun) (h : Headline p jobs before now f g runs)
    (all : AllByCompanion now causes) where
  within : AreWithin jobs runs
  within = dealt_within jobs some 0 runs h.dealt

  have : (lane : ℕ) → Each HasCauses (links_in lane h.since)
  have lane = in_lane HasCauses lane h.since (have_causes before h.since causes (subst (λ ended. AllByCompanion ended causes) h.is all))

  rights : AllLanes companion.IsRight jobs h.checks
  rights lane l =
      let own = h.lanes lane l in
      lane_rights p (links_in lane h.since) f g lane (h.turns lane) (h.checks lane) (runs_in lane runs) own (have lane) own.recorded

  unsats : AllLanes IsRight jobs h.checks
  unsats lane l = unsats_right (h.checks lane) (rights lane l)

  -- a member that is verified never fails
  pub verified_sound : AllNeverFail p runs
  verified_sound = sound_alone p jobs runs runs h.checks within unsats h.sound

  -- where all members are verified no whole run fails
  pub whole_kept : Each (λ (r : MemberRun). r.verdict ≡ Verified) runs → NoWholeRunFails p
  whole_kept verified = h.whole_runs verified unsats

  -- a failure that is told by a sat is one of a run
  pub sat_real : FailuresAreReal p runs
  sat_real = real_alone p jobs runs h.checks within rights h.real

  pub all_lawful : ((lane : ℕ) → lane < jobs → Each IsTaken (script_of p (h.turns lane))) → AllLawful before now
  all_lawful taken since is =
      let lawful : Each (λ (e : Ending). IsLawful e.dialogue) h.since = by_lanes (λ (e : Ending). IsLawful e.dialogue) jobs h.since h.within (λ lane l.
      let own = h.lanes lane l in
      lane_lawful p (links_in lane h.since) f g lane (h.turns lane) (h.checks lane) (runs_in lane runs) own (have lane) (taken lane l) own.recorded) in
      subst (Each (λ (e : Ending). IsLawful e.dialogue)) (append_cancel_left before h.since since (sym h.is ∙ is)) lawful

-- ---- its report

abbrev pub without_causes : Children → Children
without_causes s = record s { causes = [] }

-- a report speaks of no causes
report_with : (telling : Telling) (p : Program) (jobs : ℕ) (command : List (List ℕ)) (spawner : Change Children) (output : Output)
    → IsReport telling p jobs command (change without_causes spawner.before spawner.after) output → IsReport telling p jobs command spawner output
report_with telling p jobs command spawner output h = record { headline = h.headline; text = h.text; status = h.status; started = h.started }

-- the links that are out, and the counts, are told without them
back_with : (old new : Builtin) → HandsBack (change (λ s. without_causes (companions s)) old new) → HandsBack (change companions old new)
back_with old new h = record { every_lane = h.every_lane; calm = h.calm }

module _ (telling : Telling) (p : Program) (jobs : ℕ) (some : 1 ≤ jobs) (command : List (List ℕ)) (old new : Builtin) (small : HasSmallNumerals p) where
  -- where nothing that is asserted is too deep, no member is faulted
  companion_reports : (output : Output) → HandsBack (change companions old new)
      → IsReport telling p jobs command (change (λ s. without_causes (companions s)) old new) output → IsCompanionReport telling p jobs command (change companions old new) output
  companion_reports output back h =
      let report = report_with telling p jobs command (change companions old new) output h in
      let before = (companions old).ended in
      let now = (companions new).ended in
      let causes = (companions new).causes in
      let replies = links.by_companion new.ended.items in
      let runs = output.runs.items in
      record {
        report = report;
        sound = verified_sound p jobs some before now causes 0 0 runs report.headline replies;
        whole_runs = whole_kept p jobs some before now causes 0 0 runs report.headline replies;
        real = sat_real p jobs some before now causes 0 0 runs report.headline replies;
        no_fault = λ shallow.
            let taken = script_taken p small jobs before now 0 0 runs report.headline shallow in
            report.headline.complete.no_fault (back.calm refl (omega arith)) (all_lawful p jobs some before now causes 0 0 runs report.headline replies taken);
        replies = replies;
      }

  pub companion_asks : (result : Result Output AllocError)
      → Asks command jobs (IsReport telling p jobs command (change (λ s. without_causes (companions s)) old new)) (change (λ s. without_causes (companions s)) old new) result
      → Asks command jobs (IsCompanionReport telling p jobs command (change companions old new)) (change companions old new) result
  companion_asks result h =
      let back = back_with old new h.back in
      record { answered = IfOk-weaker result _ _ (λ output it. companion_reports output back it) h.answered; starts = h.starts; back = back }

-- What an answer says of its status.
use Rattle.std.proofs.Common.{◌≡◌, ◌⊎◌, inl, inr, ℕ, Bool, true, false, List, [], Option, Some, None, Result, vec_items, refl, ap, ◌∙◌, sym, subst}
use Rattle.std.specs.Prelude.{if◌then◌else◌, not}
use Rattle.std.specs.declared.alloc.AllocError.{AllocError}
use Rattle.std.specs.List.{list_any}
use Rattle.vx_report.specs.declared.run.MemberRun.{MemberRun}
use Rattle.vx_report.specs.declared.status.Status.{Status}
use Rattle.vx_report.specs.declared.status.Status.TheVariants.{Done, NotVerified, Usage, Unread, Refused, Faulted, Unwritten, Want}
use Rattle.vx_report.specs.Statuses.{status_among}
use Rattle.vx_report.specs.Reports.{is_verified, is_faulted}
use Rattle.vx_words.specs.declared.order.Order.{Order}
use Rattle.vx_words.specs.declared.order.Order.TheVariants.{Verify, Check, Print, Gen, Work, Run}
use Rattle.vx_commands.specs.declared.saying.Saying.TheVariants as saying
use Rattle.vx_commands.specs.declared.output.Ended.{Ended}
use Rattle.vx_commands.specs.declared.output.Output.{Output}
use Rattle.vx_commands.specs.declared.reports.Telling.TheVariants.{Lines}
use Rattle.vx_commands.specs.Outside.{Change, Texts, Taken, Spawners, Ends, HasFailedToRead, IsTooLong}
use Rattle.vx_commands.specs.WholeRuns.{SaysRun}
use Rattle.vx_commands.proofs.WholeRuns.{of_run}
use Rattle.vx_commands.specs.Texts.{IsToldOf, Says, SaysRefused}
use Rattle.vx_commands.specs.Reports.{is_companion, ByWhom, IsReport, IsCompanionReport}
use Rattle.vx_commands.specs.Promised.{IsTold, IsReportOf, IsDue, IsStatus, IsUnread, IsStatusOf, IsAnswer, Promise}
use Rattle.vx_commands.specs.Steps.{Obeys}

-- what is said of a text is done or refused
abbrev OnlySays : (List ℕ → Status → List ℕ → Type 0) → Type 0
OnlySays Says = (text : List ℕ) (s : Status) (bytes : List ℕ) → Says text s bytes → (s ≡ Done) ⊎ (s ≡ Refused)

only_refused : OnlySays SaysRefused
only_refused text Done bytes h = inl refl
only_refused text Refused bytes h = inr refl
only_refused text NotVerified bytes h = absurd h
only_refused text Usage bytes h = absurd h
only_refused text Unread bytes h = absurd h
only_refused text Faulted bytes h = absurd h
only_refused text Unwritten bytes h = absurd h
only_refused text Want bytes h = absurd h

only_checked : OnlySays (Says saying.Typed)
only_checked text Done bytes h = inl refl
only_checked text Refused bytes h = inr refl
only_checked text NotVerified bytes h = absurd h
only_checked text Usage bytes h = absurd h
only_checked text Unread bytes h = absurd h
only_checked text Faulted bytes h = absurd h
only_checked text Unwritten bytes h = absurd h
only_checked text Want bytes h = absurd h

only_printed : OnlySays (Says saying.Canonical)
only_printed text Done bytes h = inl refl
only_printed text Refused bytes h = inr refl
only_printed text NotVerified bytes h = absurd h
only_printed text Usage bytes h = absurd h
only_printed text Unread bytes h = absurd h
only_printed text Faulted bytes h = absurd h
only_printed text Unwritten bytes h = absurd h
only_printed text Want bytes h = absurd h

neither : (s : Status) → (s ≡ Done → ⊥) → (s ≡ Refused → ⊥) → (s ≡ Done) ⊎ (s ≡ Refused) → ⊥
neither s done refused (inl e) = done e
neither s done refused (inr e) = refused e

module _ (order : Option Order) (files : Change Texts) (sink : Change Taken) (runs : List MemberRun) where
  of_file : (Says : List ℕ → Status → List ℕ → Type 0) (only : OnlySays Says) (name : Option (List ℕ)) → (HasFailedToRead files ⊎ IsTooLong name files → IsUnread order files)
      → (due : Status) (bytes : List ℕ) → IsToldOf Says name files due bytes → runs ≡ [] → IsStatusOf order files sink runs due
  of_file Says only name unread Done bytes told none = ap status_among none
  of_file Says only name unread Refused bytes told none = none
  of_file Says only name unread Want bytes told none = none
  of_file Says only name unread Unread bytes (inl failed) none = (unread (inl failed.0), none)
  of_file Says only name unread Unread bytes (inr long) none = (unread (inr long.0), none)
  of_file Says only name unread NotVerified bytes told none = absurd (neither NotVerified (λ e. cc) (λ e. cc) (only told.0 NotVerified bytes told.3))
  of_file Says only name unread Usage bytes told none = absurd (neither Usage (λ e. cc) (λ e. cc) (only told.0 Usage bytes told.3))
  of_file Says only name unread Faulted bytes told none = absurd (neither Faulted (λ e. cc) (λ e. cc) (only told.0 Faulted bytes told.3))
  of_file Says only name unread Unwritten bytes told none = absurd (neither Unwritten (λ e. cc) (λ e. cc) (only told.0 Unwritten bytes told.3))

  of_status : (due s : Status) → IsStatusOf order files sink runs due → IsStatus due sink s → IsStatusOf order files sink runs s
  of_status due s h (inl e) = subst (λ x. IsStatusOf order files sink runs x) (sym e.0) h
  of_status due s h (inr failed) = subst (λ x. IsStatusOf order files sink runs x) (sym failed.0) failed.1

  of_bools : (a b : Bool) → status_among runs ≡ (if a then Faulted else (if b then NotVerified else Done))
      → IsStatusOf order files sink runs (if a then Faulted else (if b then NotVerified else Done))
  of_bools true b e = e
  of_bools false true e = inl e
  of_bools false false e = e

  of_runs : IsStatusOf order files sink runs (status_among runs)
  of_runs = of_bools (list_any (λ r. is_faulted r.verdict) runs) (list_any (λ r. not (is_verified r.verdict)) runs) refl

-- what else it isn't
not_of_run : (s : Status) → (s ≡ Done → ⊥) → (s ≡ NotVerified → ⊥) → (s ≡ Refused → ⊥) → (s ≡ Done) ⊎ (s ≡ NotVerified) ⊎ (s ≡ Refused) → ⊥
not_of_run s done failed refused (inl e) = done e
not_of_run s done failed refused (inr (inl e)) = failed e
not_of_run s done failed refused (inr (inr e)) = refused e

of_whole_run : (files : Change Texts) (sink : Change Taken) (runs : List MemberRun) (file method : List ℕ) (seed : ℕ) (due : Status) (bytes : List ℕ)
    → IsToldOf (SaysRun method seed) (Some file) files due bytes → runs ≡ [] → IsStatusOf (Some (Run file method seed)) files sink runs due
of_whole_run files sink runs file method seed Done bytes told none = ap status_among none
of_whole_run files sink runs file method seed Refused bytes told none = none
of_whole_run files sink runs file method seed Want bytes told none = none
of_whole_run files sink runs file method seed NotVerified bytes told none = inr (tt, none)
of_whole_run files sink runs file method seed Unread bytes (inl failed) none = (inl failed.0, none)
of_whole_run files sink runs file method seed Unread bytes (inr long) none = (inr long.0, none)
of_whole_run files sink runs file method seed Usage bytes told none =
    absurd (not_of_run Usage (λ e. cc) (λ e. cc) (λ e. cc) (of_run method seed told.0 Usage bytes (only_refused told.0 Usage bytes) told.3))
of_whole_run files sink runs file method seed Faulted bytes told none =
    absurd (not_of_run Faulted (λ e. cc) (λ e. cc) (λ e. cc) (of_run method seed told.0 Faulted bytes (only_refused told.0 Faulted bytes) told.3))
of_whole_run files sink runs file method seed Unwritten bytes told none =
    absurd (not_of_run Unwritten (λ e. cc) (λ e. cc) (λ e. cc) (of_run method seed told.0 Unwritten bytes (only_refused told.0 Unwritten bytes) told.3))

of_told : (order : Option Order) (files : Change Texts) (sink : Change Taken) (runs : List MemberRun) (due : Status) (bytes : List ℕ) → IsTold order files due bytes → runs ≡ []
    → IsStatusOf order files sink runs due
of_told None files sink runs due bytes told none = subst (λ x. IsStatusOf None files sink runs x) (sym told.0) (refl, none)
of_told (Some (Verify file solver jobs)) files sink runs due bytes told none =
    of_file (Some (Verify file solver jobs)) files sink runs SaysRefused only_refused file (λ u. u) due bytes told none
of_told (Some (Check file)) files sink runs due bytes told none = of_file (Some (Check file)) files sink runs (Says saying.Typed) only_checked file (λ u. u) due bytes told none
of_told (Some (Print file)) files sink runs due bytes told none = of_file (Some (Print file)) files sink runs (Says saying.Canonical) only_printed file (λ u. u) due bytes told none
of_told (Some (Gen methods)) files sink runs due bytes told none = subst (λ x. IsStatusOf (Some (Gen methods)) files sink runs x) (sym told.done) (ap status_among none)
of_told (Some (Work methods jobs)) files sink runs due bytes told none = absurd told
of_told (Some (Run file method seed)) files sink runs due bytes told none = of_whole_run files sink runs file method seed due bytes told none

by_either : (b : Bool) (A B C : Type 0) → (A → C) → (B → C) → ByWhom b A B → C
by_either true A B C f g h = f h
by_either false A B C f g h = g h

module _ (files : Change Texts) (spawners : Spawners) (sink : Change Taken) (output : Output) where
  -- the status of a report
  reported : (order : Option Order) → output.status ≡ status_among output.runs.items → IsStatusOf order files sink output.runs.items output.status
  reported order is = subst (λ x. IsStatusOf order files sink output.runs.items x) (sym is) (of_runs order files sink output.runs.items)

  of_report : (order : Option Order) → IsReportOf order files spawners output → IsStatusOf order files sink output.runs.items output.status
  of_report None report = absurd report
  of_report (Some (Check file)) report = absurd report
  of_report (Some (Print file)) report = absurd report
  of_report (Some (Gen methods)) report = absurd report
  of_report (Some (Run file method seed)) report = absurd report
  of_report (Some (Work methods jobs)) report = reported (Some (Work methods jobs)) report.0.2.report.status
  of_report (Some (Verify file solver jobs)) report =
      let order = Some (Verify file solver jobs) in
      let p = report.2.0 in
      by_either (is_companion solver) (IsCompanionReport Lines p jobs solver spawners.companion output) (IsReport Lines p jobs solver spawners.handed output) _
      (λ h. reported order h.report.status) (λ h. reported order h.status) report.2.2

  of_due : (order : Option Order) → IsDue order files spawners output → IsStatusOf order files sink output.runs.items output.status
  of_due order (inl text) = of_told order files sink output.runs.items output.status (vec_items output.bytes) text.0.told text.0.none
  of_due order (inr report) = of_report order report

status_told : (order : Option Order) (ends : Ends) (ended : Ended) → IsAnswer order ends ended → IsStatusOf order ends.files ends.sink ended.runs.items ended.status
status_told order ends ended (inl nothing) = subst (λ x. IsStatusOf order ends.files ends.sink ended.runs.items x) (sym nothing.status) nothing.none
status_told order ends ended (inr (output, due, puts)) =
    let own = of_due ends.files ends.spawners ends.sink output order due in
    let runs = subst (λ runs. IsStatusOf order ends.files ends.sink runs output.status) (sym puts.runs) own in
    of_status order ends.files ends.sink ended.runs.items output.status ended.status runs puts.status

of_usage : (sink : Change Taken) (due s : Status) → due ≡ Usage → IsStatus due sink s → (s ≡ Usage) ⊎ (s ≡ Unwritten) ⊎ (s ≡ Want)
of_usage sink due s is (inl e) = inl (e.0 ∙ is)
of_usage sink due s is (inr failed) = inr (inl failed.0)

usage_by : (ends : Ends) (ended : Ended) → IsAnswer None ends ended → (ended.status ≡ Usage) ⊎ (ended.status ≡ Unwritten) ⊎ (ended.status ≡ Want)
usage_by ends ended (inl nothing) = inr (inr nothing.status)
usage_by ends ended (inr (output, inl text, puts)) = of_usage ends.sink output.status ended.status text.0.told.0 puts.status
usage_by ends ended (inr (output, inr report, puts)) = absurd report

-- where the words mean nothing
usage_told : (order : Option Order) (ends : Ends) (ended : Ended) → IsAnswer order ends ended → order ≡ None → (ended.status ≡ Usage) ⊎ (ended.status ≡ Unwritten) ⊎ (ended.status ≡ Want)
usage_told None ends ended h e = usage_by ends ended h
usage_told (Some order) ends ended h e = cc

-- all that is promised, of what is to be put and how it is
pub promised : (order : Option Order) (ends : Ends) (ended : Ended) (result : Result Output AllocError) → Obeys order ends.files ends.spawners result → IsAnswer order ends ended
    → Promise order ends ended
promised order ends ended result obeys answer = record {
  answered = answer;
  asked = obeys.asked;
  starts = obeys.starts;
  status = status_told order ends ended answer;
  usage = usage_told order ends ended answer;
  back = obeys.back;
}

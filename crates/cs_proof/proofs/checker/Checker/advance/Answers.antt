use Rattle.std.proofs.Common.{◌≡◌, Some, map, sym, ◌∙◌, ap₂, subst}
use Rattle.std.specs.Prelude.{slice_get}
use Rattle.cs_table.specs.Views.{nodes}
use Rattle.cs_farkas.specs.Views.{Breaks}
use Rattle.cs_proof.specs.Views.{duty}
use Rattle.cs_proof.specs.Checking.{refusal, met}
use Rattle.cs_proof.specs.CheckerView.{checker}
use Rattle.cs_proof.proofs.Verdicts.{next_done, next_refused, duty_here}
use Rattle.cs_proof.proofs.checker.Checker.advance.Goals as goal

pub returns-in-Ok-clause-value : goal.returns-in-Ok-clause-value
returns-in-Ok-clause-value c =
    let l = c.in-Some.ensures.lookup in
    let self = c.args.self.now in
    next_done (checker self) (duty c.in-Some.duty.now) c.in-Ok.derived
    (subst (λ ds. slice_get (map duty ds) self.done ≡ Some (duty c.in-Some.duty.now)) c.deref.ensures.value (duty_here c.deref.result.now self.done c.in-Some.duty.now (l.3).0 l.1))
    (ap₂ (λ ns cs. met (nodes ns) cs self.derived (duty c.in-Some.duty.now)) (sym c.deref-2.ensures.value) (sym c.deref-3.ensures.value) ∙ c.in-Ok.ensures.value)

pub returns-in-Err-clause-value : goal.returns-in-Err-clause-value
returns-in-Err-clause-value c =
    let l = c.in-Some.ensures.lookup in
    let self = c.args.self.now in
    next_refused (checker self) (duty c.in-Some.duty.now) c.in-Err.stop (refusal c.refusal_at-refusal.result)
    (subst (λ ds. slice_get (map duty ds) self.done ≡ Some (duty c.in-Some.duty.now)) c.deref.ensures.value (duty_here c.deref.result.now self.done c.in-Some.duty.now (l.3).0 l.1))
    (subst (Breaks c.in-Err.stop) (ap₂ (λ ns cs. met (nodes ns) cs self.derived (duty c.in-Some.duty.now)) c.deref-2.ensures.value c.deref-3.ensures.value) c.in-Err.ensures.value)
    c.refusal_at-refusal.ensures

use Rattle.std.proofs.Common.{◌≡◌, ◌↔◌, ℕ, Ok, Err, IfOk, Vec, Global, map, refl, subst, sym}
use Rattle.std.specs.declared.result.Result.{Result}
use Rattle.vx_terms.specs.Interpretations.{Each, IsUnsatisfiable}
use Rattle.cs_certificate.specs.Certificate.{Stack}
use Rattle.cs_sums.specs.declared.stop.Stop.{Stop}
use Rattle.cs_sums.specs.declared.stop.Stop.TheVariants as stops
use Rattle.cs_farkas.specs.Sums as sums
use Rattle.cs_numbers.specs.Laws.{IsSorted}
use Rattle.cs_proof.specs.declared.step.Step.{Step}
use Rattle.cs_proof.specs.Answers.{Answers}
use Rattle.cs_proof.specs.Checking.{Verdict, Finished, Over, refusal}
use Rattle.cs_proof.specs.CheckerView.{Closes}
use Rattle.cs_proof.specs.Fits.{seen}
use Rattle.cs_proof.specs.Views.{written}
use Rattle.cs_answer.specs.Answers.{IsRight}
use Rattle.cs_answer.specs.Judged.{IsByText, IsByChecker}
use Rattle.cs_answer.specs.declared.answer.Answer.{Answer}
use Rattle.cs_answer.proofs.judging.certified.Goals as goal

-- of finished steps, by whether they are writable
module _ (stack : Stack) (steps : Vec Step Global) where
  right_by : (r : Result Answer Stop) → IsByText steps r → (Each IsSorted stack.assertions → Answers stack (map written steps.items) Finished × IsUnsatisfiable stack.assertions) → IfOk r (IsRight stack)
  right_by (Ok a) t h = subst (IsRight stack) (sym t.0) ((λ sorted. let f = h sorted in (f.0, t.1, f.1)), tt, tt)
  right_by (Err e) t h = tt

  told_by : (r : Result Answer Stop) → IsByText steps r → Answers stack (map written steps.items) Finished → ((n : ℕ) (o : sums.Over) → Answers stack (map written steps.items) (Over n o) → ⊥) → IsByChecker stack steps r
  told_by (Ok a) t f o = (t.0, f, t.1)
  told_by (Err stops.Miss) t f o = ((λ g. t), o)
  told_by (Err (stops.Over c)) t f o = absurd t
  told_by (Err stops.Budget) t f o = absurd t
  told_by (Err stops.Want) t f o = tt

pub returns-in-Ok-clause-right : goal.returns-in-Ok-clause-right
returns-in-Ok-clause-right c =
    let stack = seen c.args.stack.now in
    right_by stack c.args.steps c.writable.result c.writable.ensures
    (λ sorted.
    let told = (c.in_ok-verdict.ensures.told sorted Finished).1 (subst (λ r. Closes r Finished) (sym c.in-Ok.is) refl) in
    let finished = subst (λ ss. Answers stack (map written ss) Finished) c.deref.ensures.value told in
    (finished, c.finished_refutes.ensures.refuted stack _ finished))

pub returns-in-Ok-clause-told : goal.returns-in-Ok-clause-told
returns-in-Ok-clause-told c = λ sorted.
    let stack = seen c.args.stack.now in
    let told = subst (λ r. (v : Verdict) → Answers stack (map written c.deref.result.now) v ↔ Closes r v) c.in-Ok.is (c.in_ok-verdict.ensures.told sorted) in
    let all = subst (λ ss. (v : Verdict) → Answers stack (map written ss) v ↔ (v ≡ Finished)) c.deref.ensures.value told in
    told_by stack c.args.steps c.writable.result c.writable.ensures ((all Finished).1 refl) (λ n o over. let e = (all (Over n o)).0 over in cc)

pub returns-in-Err-clause-told : goal.returns-in-Err-clause-told
returns-in-Err-clause-told c = λ sorted.
    let stack = seen c.args.stack.now in
    let told = subst (λ r. (v : Verdict) → Answers stack (map written c.deref.result.now) v ↔ Closes r v) c.in-Err.is (c.in_ok-verdict.ensures.told sorted) in
    let all = subst (λ ss. (v : Verdict) → Answers stack (map written ss) v ↔ (v ≡ refusal c.in-Err.refusal)) c.deref.ensures.value told in
    c.refused.ensures stack c.args.steps all

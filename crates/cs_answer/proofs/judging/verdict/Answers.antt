use Rattle.std.proofs.Common.{◌≡◌, ◌↔◌, ◌∙◌, Ok, Err, map, subst, sym}
use Rattle.std.specs.declared.result.Result.{Result}
use Rattle.cs_reader.specs.declared.refusal.Refusal.{Refusal}
use Rattle.cs_proof.specs.Answers.{Answers}
use Rattle.cs_proof.specs.Checking.{Verdict}
use Rattle.cs_proof.specs.CheckerView.{Closes}
use Rattle.cs_proof.specs.Fits.{seen}
use Rattle.cs_proof.specs.Views.{written}
use Rattle.cs_answer.proofs.judging.verdict.Goals as goal

closes_one : {A : Type 0} (r : Result A Refusal) (v w : Verdict) → Closes r v → Closes r w → v ≡ w
closes_one (Ok u) v w here there = here ∙ sym there
closes_one (Err e) v w here there = here ∙ sym there

-- what is right of the one verdict is right of what the checker says
told_is : {A : Type 0} (P : Verdict → Type 0) (v : Verdict) (r : Result A Refusal) → Closes r v → ((w : Verdict) → P w ↔ (w ≡ v)) → (w : Verdict) → P w ↔ Closes r w
told_is P v r closed only w = ((λ p. subst (Closes r) (sym ((only w).0 p)) closed), (λ told. (only w).1 (closes_one r w v told closed)))

pub returns-in-Ok-clause-told : goal.returns-in-Ok-clause-told
returns-in-Ok-clause-told c =
    λ sorted. told_is (Answers (seen c.args.stack.now) (map written c.args.steps.now)) _ c.finish.result c.finish.ensures (c.in-Ok.ensures.answers sorted)

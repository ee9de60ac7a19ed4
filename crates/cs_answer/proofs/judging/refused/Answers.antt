use Rattle.std.proofs.Common.{◌≡◌, ◌∙◌, ◌⊎◌, ℕ, inl, inr, ap, sym}
use Rattle.cs_farkas.specs.Sums as sums
use Rattle.cs_reader.specs.declared.refusal.Refusal.{Refusal}
use Rattle.cs_reader.specs.declared.refusal.Refusal.TheVariants as refusals
use Rattle.cs_proof.specs.Checking.{Finished, Over, refusal}
use Rattle.cs_answer.proofs.judging.refused.Goals as goal

-- no refusal says that the steps are finished
not_finished : (r : Refusal) → Finished ≡ refusal r → ⊥
not_finished (refusals.BadStep n) e = cc
not_finished (refusals.Over n call a b) e = cc
not_finished refusals.NotEmpty e = cc
not_finished (refusals.BadForm n) e = cc

-- and none but one says that a fraction leaves 128 bits
not_over : (r : Refusal) → ((k : ℕ) × (r ≡ refusals.BadStep k)) ⊎ ((r ≡ refusals.NotEmpty) ⊎ ((k : ℕ) × (r ≡ refusals.BadForm k))) → (n : ℕ) (o : sums.Over) → Over n o ≡ refusal r → ⊥
not_over r (inl step) n o e = let f = e ∙ ap refusal step.1 in cc
not_over r (inr (inl empty)) n o e = let f = e ∙ ap refusal empty in cc
not_over r (inr (inr form)) n o e = let f = e ∙ ap refusal form.1 in cc

pub returns-in-Over : goal.returns-in-Over
returns-in-Over c = λ stack steps all. let is = sym (ap refusal c.in-Over.is) in (c.in-Over.field-0, (all _).1 is)

pub returns-in-BadStep : goal.returns-in-BadStep
returns-in-BadStep c = λ stack steps all.
    ((λ finished all_writable. not_finished c.args.refusal ((all Finished).0 finished)), (λ n o over. not_over c.args.refusal c.in-BadStep.is n o ((all (Over n o)).0 over)))

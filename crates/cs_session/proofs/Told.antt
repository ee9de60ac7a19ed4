-- What an answer to the stack says of the levels.
use Rattle.std.proofs.Common.{◌≡◌, inl, inr, map, subst}
use Rattle.std.proofs.Math.Logic.{∥∥₁_map, ∥∥₁_elim}
use Rattle.std.proofs.lemmas.List.{reverse-reverse}
use Rattle.std.specs.Prelude.{List}
use Rattle.std.specs.Global.{Vec}
use Rattle.vx_terms.specs.Interpretations.{Each, IsTrueIn, AllTrue, IsSatisfiable, IsUnsatisfiable}
use Rattle.vx_smt_meaning.specs.Commands.{Level, assertions_of}
use Rattle.cs_numbers.specs.Laws.{IsSorted}
use Rattle.cs_certificate.specs.Certificate.{Stack}
use Rattle.cs_model.specs.Models.{interpretation}
use Rattle.cs_model.specs.declared.tables.Model.{Model}
use Rattle.cs_proof.specs.declared.step.Step.{Step}
use Rattle.cs_proof.specs.Views.{written}
use Rattle.cs_proof.specs.Checking.{Finished}
use Rattle.cs_proof.specs.Answers.{Answers}
use Rattle.cs_answer.specs.declared.answer.Answer.{Answer}
use Rattle.cs_answer.specs.declared.answer.Answer.TheVariants.{Refuted, Satisfied, Unknown}
use Rattle.cs_answer.specs.declared.answer.Cause.{Cause}
use Rattle.cs_answer.specs.Causes.{IsCause}
use Rattle.cs_answer.specs.Few.{IsFew, IsDecided}
use Rattle.cs_answer.specs.Answers.{IsRefutation, IsSatisfaction, IsCaused}
use Rattle.cs_opposites.specs.Opposites.{HasOpposites}
use Rattle.cs_decide.specs.Refuted.{IsRefuted}
use Rattle.cs_session.specs.Replies.{IsCertificate}
use Rattle.cs_session.specs.Views.{standing}
use Rattle.cs_session.proofs.Lists.{each_reverse, contains_reverse}

no_two : IsProp ⊥
no_two x y = absurd x

refutes_standing : (levels : List Level) (steps : Vec Step) → ∥ Each IsSorted (standing levels).assertions ∥₁ → (Each IsSorted (standing levels).assertions → IsRefutation (standing levels) (Refuted steps))
    → ∥ IsCertificate levels steps ∥₁ × IsUnsatisfiable (assertions_of levels)
refutes_standing levels steps sorted told =
    (∥∥₁_map sorted (λ h. let t = told h in (t.0, t.1)), λ i all. ∥∥₁_elim sorted no_two (λ h. (told h).2 i (each_reverse (IsTrueIn i) (assertions_of levels) all)))

pub refutes : (levels : List Level) (stack : Stack) (answer : Answer) (steps : Vec Step) → stack ≡ standing levels → answer ≡ Refuted steps
    → ∥ Each IsSorted stack.assertions ∥₁ → (Each IsSorted stack.assertions → IsRefutation stack answer)
    → ∥ IsCertificate levels steps ∥₁ × IsUnsatisfiable (assertions_of levels)
refutes levels stack answer steps e is sorted told =
    refutes_standing levels steps (subst (λ (s : Stack). ∥ Each IsSorted s.assertions ∥₁) e sorted)
    (subst (λ (a : Answer). Each IsSorted (standing levels).assertions → IsRefutation (standing levels) a) is
    (subst (λ (s : Stack). Each IsSorted s.assertions → IsRefutation s answer) e told))

pub satisfies : (levels : List Level) (stack : Stack) (answer : Answer) (m : Model) → stack ≡ standing levels → answer ≡ Satisfied m → IsSatisfaction stack answer → IsSatisfiable (assertions_of levels)
satisfies levels stack answer m e is told =
    let all : AllTrue (interpretation m.entries.items) (standing levels).assertions =
    subst (λ (a : Answer). IsSatisfaction (standing levels) a) is (subst (λ (s : Stack). IsSatisfaction s answer) e told) in
    (interpretation m.entries.items, subst (AllTrue (interpretation m.entries.items)) (reverse-reverse (assertions_of levels)) (each_reverse (IsTrueIn (interpretation m.entries.items)) (standing levels).assertions all))

opposites_standing : (levels : List Level) → HasOpposites (assertions_of levels) → HasOpposites (standing levels).assertions
opposites_standing levels (inl c) = inl (contains_reverse (assertions_of levels) c)
opposites_standing levels (inr (t, c, d)) = inr (t, contains_reverse (assertions_of levels) c, contains_reverse (assertions_of levels) d)

pub leaves_open : (levels : List Level) (stack : Stack) (answer : Answer) (cause : Cause) → stack ≡ standing levels → answer ≡ Unknown cause → IsCaused stack answer → (IsFew stack → IsDecided answer)
    → (HasOpposites stack.assertions → IsRefuted answer) → IsCause (standing levels) cause × ¬ (IsFew (standing levels)) × ¬ (HasOpposites (assertions_of levels))
leaves_open levels stack answer cause e is told few opposed =
    let decided : IsFew (standing levels) → IsDecided answer = subst (λ (s : Stack). IsFew s → IsDecided answer) e few in
    let refuted : HasOpposites (standing levels).assertions → IsRefuted answer = subst (λ (s : Stack). HasOpposites s.assertions → IsRefuted answer) e opposed in (
      subst (λ (a : Answer). IsCaused (standing levels) a) is (subst (λ (s : Stack). IsCaused s answer) e told),
      λ h. subst IsDecided is (decided h),
      λ h. subst IsRefuted is (refuted (opposites_standing levels h)),
    )

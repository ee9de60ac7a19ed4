-- A checker that begins with plans gives their answer.
use Rattle.std.proofs.Common.{◌≡◌, zero, suc, ◌<◌, ◌^◌, List, [], ◌∷◌, Option, Some, None, All, map, length, refl, sym, subst, arith}
use Rattle.std.specs.Prelude.{◌↔◌}
use Rattle.std.proofs.lemmas.List.{length-map}
use Rattle.std.proofs.lemmas.Option.{same_Some}
use Rattle.vx_terms.specs.Terms.{Term}
use Rattle.vx_terms.specs.Interpretations.{Each}
use Rattle.vx_terms.specs.Views.{term}
use Rattle.cs_table.specs.Views.{nodes}
use Rattle.cs_certificate.specs.Certificate.{Contains, Step}
use Rattle.cs_numbers.specs.Laws.{IsSorted}
use Rattle.cs_numbers.specs.Parts.{HasFewParts}
use Rattle.cs_proof.specs.declared.plans.Plans.{Plans as Plans'}
use Rattle.cs_proof.specs.declared.stack.Stack.{Stack as Stack'}
use Rattle.cs_proof.specs.Views.{duty}
use Rattle.cs_proof.specs.Fits.{stand, seen, Fits}
use Rattle.cs_proof.specs.Plans.{plans_of}
use Rattle.cs_proof.specs.Checking.{Verdict, verdict}
use Rattle.cs_proof.specs.Answers.{Answers}
use Rattle.cs_proof.proofs.Whole.{whole_answer}

few_at : {X : Type 0} (view : X → Term) (xs : List X) (t : Term) → All (λ x. HasFewParts (view x)) xs → Contains (map view xs) t → HasFewParts t
few_at view [] t h (n, e) = cc
few_at view (x ∷ xs) t h (zero, e) = subst HasFewParts (same_Some _ _ e) (h 0 x (omega arith))
few_at view (x ∷ xs) t h (suc n, e) = few_at view xs t (λ k d lt. h (suc k) d (omega arith)) (n, e)

pub begun_answers : (stack : Stack') (ws : List (Option Step)) (p : Plans') → plans_of (seen stack) ws ≡ Some (stand p) → Fits p → length stack.assertions.items < 2 ^ 32 → length p.clauses.items < 2 ^ 32 → Each IsSorted (seen stack).assertions → (v : Verdict) →
    Answers (seen stack) ws v ↔ (v ≡ verdict record { nodes = nodes p.nodes.nodes.items; clauses = p.clauses.items; duties = map duty p.duties.items; done = 0; derived = 0; refusal = None })
begun_answers stack ws p e fits few few_clauses sorted v =
    whole_answer (seen stack) ws (stand p) record { nodes = nodes p.nodes.nodes.items; clauses = p.clauses.items; duties = map duty p.duties.items; done = 0; derived = 0; refusal = None } sorted e
    (λ roots. record {
      nodes = refl;
      duties = refl;
      clauses = refl;
      small = subst (λ n. n < 2 ^ 32) (sym (length-map p.nodes.nodes.items _)) fits.small;
      few = subst (λ n. n < 2 ^ 32) (sym (length-map stack.assertions.items _)) few;
      few_clauses = few_clauses;
      few_parts = λ t. few_at (λ x. term x.value) p.terms.terms.items t p.terms.few_parts;
    })
    refl refl refl v

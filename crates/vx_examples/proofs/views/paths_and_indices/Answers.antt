use Rattle.std.proofs.Common.{◌≡◌, Bool, true, false, ◌||◌, refl, sym, ap, ◌∙◌, true≢false}
use Rattle.vx_terms.specs.Terms as terms
use Rattle.vx_heap.specs.Views.{held_term}
use Rattle.vx_examples.specs.Words.{bool}
use Rattle.vx_examples.proofs.views.paths_and_indices.Goals as goal

or_no : (b : Bool) → (b || false) ≡ b
or_no true = refl
or_no false = refl

pub returns-clause-indexed : goal.returns-clause-indexed
returns-clause-indexed c u = refl

pub returns-clause-not_indexed : goal.returns-clause-not_indexed
returns-clause-not_indexed c h = true≢false (sym (h (bool 1)))

pub returns-clause-not_alike : goal.returns-clause-not_alike
returns-clause-not_alike c q u e h = true≢false (ap (λ t. terms.same (bool 1) t || false) (sym e) ∙ h 5 (bool 1))

pub returns-clause-extended_index : goal.returns-clause-extended_index
returns-clause-extended_index c q u level v = or_no (terms.same v (held_term u))

pub returns-clause-not_extended : goal.returns-clause-not_extended
returns-clause-not_extended c level h = true≢false (sym (h (bool 1)))

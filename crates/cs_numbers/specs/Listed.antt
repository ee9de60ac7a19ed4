-- Numbered terms in order.
use Rattle.std.specs.Prelude.{List, map}
use Rattle.vx_terms.specs.Terms.{Term}
use Rattle.vx_terms.specs.Views.{term}
use Rattle.cs_numbers.specs.declared.terms.NumberedTerms.{NumberedTerms}

abbrev pub terms_in : NumberedTerms → List Term
terms_in n = map (λ x. term x.value) n.terms.items

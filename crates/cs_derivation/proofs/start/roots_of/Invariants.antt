use Rattle.std.proofs.Common.{◌≡◌, drop, map}
use Rattle.vx_terms.specs.Views.{term}
use Rattle.cs_numbers.specs.Listed.{terms_in}
use Rattle.cs_numbers.specs.Numbering.{places}
use Rattle.cs_proof.proofs.Walks.{with_front}
use Rattle.cs_derivation.proofs.start.roots_of.Given as goal

abbrev pub invariant-loop-assertion : goal.invariant-loop-assertion
invariant-loop-assertion l = with_front l.roots.items (places (terms_in l.fn.terms) (map (λ x. term x.value) (drop l.assertion-index l.assertions))) ≡ places (terms_in l.fn.terms) (map (λ x. term x.value) l.fn.assertions)

use Rattle.std.proofs.Common.{◌≡◌, [], map, drop}
use Rattle.vx_terms.specs.Views.{term}
use Rattle.cs_certificate.specs.Terms.{parts_of}
use Rattle.cs_numbers.specs.Listed.{terms_in}
use Rattle.cs_numbers.specs.Numbering.{added}
use Rattle.cs_numbers.proofs.adding.number.Given as goal

abbrev pub invariant-loop-assertion : goal.invariant-loop-assertion
invariant-loop-assertion l = added [] (parts_of (map (λ x. term x.value) l.assertions)) ≡ added (terms_in l.all) (parts_of (map (λ x. term x.value) (drop l.assertion-index l.assertions)))

use Rattle.std.proofs.Common.{map, take}
use Rattle.vx_terms.specs.Views.{term}
use Rattle.cs_numbers.specs.Listed.{terms_in}
use Rattle.cs_opposites.specs.Found.{AreEntered}
use Rattle.cs_opposites.proofs.find.places_of.Given as goal

abbrev pub invariant-loop-place : goal.invariant-loop-place
invariant-loop-place l = AreEntered (terms_in l.terms) (map (λ x. term x.value) (take l.place l.assertions)) l.places.items

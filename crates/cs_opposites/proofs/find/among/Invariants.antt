use Rattle.std.proofs.Common.{◌<◌, ℕ, map}
use Rattle.vx_terms.specs.Terms.{Term}
use Rattle.vx_terms.specs.Views.{term}
use Rattle.cs_certificate.specs.Certificate.{At}
use Rattle.cs_opposites.specs.Found.{IsUnopposed}
use Rattle.cs_opposites.proofs.find.among.Given as goal

abbrev pub invariant-loop-place : goal.invariant-loop-place
invariant-loop-place l = (k : ℕ) (t : Term) → k < l.place → At (map (λ x. term x.value) l.assertions) k t → IsUnopposed (map (λ x. term x.value) l.assertions) t

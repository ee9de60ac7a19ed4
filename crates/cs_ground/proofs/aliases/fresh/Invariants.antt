use Rattle.std.proofs.Common.{◌≡◌}
use Rattle.vx_terms.specs.Terms.{sort_of}
use Rattle.vx_terms.specs.Views.{term}
use Rattle.cs_certificate.specs.Certificate.{Contains}
use Rattle.cs_numbers.specs.Listed.{terms_in}
use Rattle.cs_ground.proofs.aliases.fresh.Given as goal

abbrev pub invariant-loop : goal.invariant-loop
invariant-loop l = Contains (terms_in l.terms) (term l.t.value) → Contains (terms_in l.terms) (term l.other.value) × (sort_of (term l.other.value) ≡ sort_of (term l.t.value))

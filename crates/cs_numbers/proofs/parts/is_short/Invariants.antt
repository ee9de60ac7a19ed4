use Rattle.std.proofs.Common.{◌≡◌, ◌+◌, length}
use Rattle.vx_terms.specs.Views.{terms}
use Rattle.cs_certificate.specs.Terms.{items}
use Rattle.cs_numbers.proofs.parts.is_short.Given as goal

abbrev pub invariant-loop : goal.invariant-loop
invariant-loop l = l.counter + length (items (terms l.rest)) ≡ length (items (terms l.parts))

use Rattle.std.proofs.Common.{◌≡◌, drop}
use Rattle.vx_terms.specs.Terms.{same}
use Rattle.vx_terms.specs.Views.{term}
use Rattle.cs_index.specs.Found.{found}
use Rattle.cs_numbers.specs.Listed.{terms_in}
use Rattle.cs_numbers.specs.Numbering.{place}
use Rattle.cs_numbers.proofs.table.place_under.Given as goal

abbrev pub invariant-loop-number : goal.invariant-loop-number
invariant-loop-number l = found (same (term l.t)) (terms_in l.all) (drop l.number-index l.number-items) ≡ place (terms_in l.all) (term l.t)

-- A fraction of the code is in lowest terms.
use Rattle.std.proofs.Common.{◌≡◌, true, ◌∙◌, ap}
use Rattle.vx_frac.specs.Fractions.{lowest}
use Rattle.vx_frac.specs.Fraction.{fraction}
use Rattle.vx_frac.specs.declared.Frac.{Frac}
use Rattle.vx_frac.proofs.Reduced.{lowest_fraction}
use Rattle.vx_terms.specs.Terms.{identical}
use Rattle.vx_terms.proofs.Values.{fraction_same}

pub part_is_lowest : (f : Frac) → identical (lowest (fraction f)) (fraction f) ≡ true
part_is_lowest f = ap (λ a. identical a (fraction f)) (lowest_fraction f) ∙ fraction_same (fraction f)

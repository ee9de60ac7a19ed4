use Rattle.std.proofs.Common.{◌≡◌, ◌≤◌, ◌+◌, ◌*◌, List, length, reverse}
use Rattle.vx_terms.specs.Terms.{Term}
use Rattle.cs_certificate.specs.Terms.{parts_of}
use Rattle.cs_numbers.specs.Listed.{terms_in}
use Rattle.cs_numbers.specs.Numbering.{added}
use Rattle.cs_numbers.specs.Forest.{seen, IsForest}
use Rattle.cs_numbers.proofs.Roots.{Walked}
use Rattle.cs_numbers.proofs.adding.+adding.Given as goal

-- what is left is added to the same end
abbrev pub invariant-add_all-loop-last : goal.invariant-add_all-loop-last
invariant-add_all-loop-last l = record {
  fewer : length l.left ≤ length l.fn.occurrences;
  forest : IsForest (seen l.left);
  same : added (terms_in l.all) (reverse (seen l.left)) ≡ added (terms_in l.initial.all) (reverse (seen l.fn.occurrences));
  numbers : (us : List Term) → seen l.fn.occurrences ≡ reverse (parts_of us) → Walked us (terms_in l.all) l.numbers.items (seen l.left);
}

abbrev pub decreases-add_all-loop-last : goal.decreases-add_all-loop-last
decreases-add_all-loop-last l = length l.left

-- a term comes off before what stands in it is added
abbrev pub decreases-add_all : goal.decreases-add_all
decreases-add_all l = 2 * length l.occurrences.now

abbrev pub decreases-add_with : goal.decreases-add_with
decreases-add_with l = 2 * length l.within.now + 1

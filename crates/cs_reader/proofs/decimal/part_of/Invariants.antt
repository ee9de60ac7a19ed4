use Rattle.std.proofs.Common.{◌≡◌, pos, length}
use Rattle.vx_frac.specs.Fraction.{fraction}
use Rattle.cs_reader.specs.Spelling.{over, part_after}
use Rattle.cs_reader.proofs.decimal.part_of.Given as goal

abbrev pub invariant-loop-last : goal.invariant-loop-last
invariant-loop-last l = part_after (fraction l.part) l.rest ≡ part_after (over (pos 0) 0) l.fn.digits

abbrev pub decreases-loop-last : goal.decreases-loop-last
decreases-loop-last l = length l.rest

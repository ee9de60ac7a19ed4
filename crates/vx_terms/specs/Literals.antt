-- The literals among the operands, as src/literals finds them.
use Rattle.std.specs.Prelude.{Option, Some, None, Result, Ok, Err, true, ℤ}
use Rattle.vx_frac.specs.declared.Over.{Over}
use Rattle.vx_frac.specs.declared.Frac.{Frac}
use Rattle.vx_frac.specs.Fraction.{fraction}
use Rattle.vx_terms.specs.declared.literals.Literals.{Literals as Literals'}
use Rattle.vx_terms.specs.declared.literals.Literals.TheVariants as literals'
use Rattle.vx_terms.specs.Terms.{Term}
use Rattle.vx_terms.specs.Build.{Literals, Numbers, Parts, Truths, Neither, folded_number, folded_part}

abbrev pub literals : Literals' → Literals
literals (literals'.Numbers m n) = Numbers m n
literals (literals'.Parts a b) = Parts (fraction a) (fraction b)
literals (literals'.Truths a b) = Truths a b
literals literals'.Neither = Neither

-- a number of 128 bits as a literal where it is in range, else the term as it stands
abbrev pub number_or : Option ℤ → Term → Term
number_or (Some z) t = folded_number z t
number_or None t = t

-- what an operation of fractions answers, as a literal where it is in range, else the term as it stands
abbrev pub part_or : Result Frac Over → Term → Term
part_or (Ok a) t = folded_part true (fraction a) t
part_or (Err over) t = t

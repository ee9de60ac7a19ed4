use Rattle.std.proofs.Common.{◌≡◌, drop, map}
use Rattle.vx_frac.specs.Fraction.{fraction}
use Rattle.cs_table.specs.Views.{nodes}
use Rattle.cs_table.specs.Gives.{clause}
use Rattle.cs_farkas.specs.Rows.{parts_of}
use Rattle.cs_farkas.specs.Views as views
use Rattle.cs_farkas.proofs.Parts.{joined}
use Rattle.cs_farkas.proofs.combine.parts_of.Given as goal

abbrev pub invariant-loop-at : goal.invariant-loop-at
invariant-loop-at l =
    parts_of (nodes l.all) (clause l.literals) (map fraction l.multipliers) ≡ joined (map views.part l.parts.items) (parts_of (nodes l.all) (clause (drop l.at l.literals)) (map fraction (drop l.at l.multipliers)))

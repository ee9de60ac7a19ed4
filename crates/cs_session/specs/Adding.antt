-- What has to hold of what is added to levels.
use Rattle.std.specs.Prelude.{◌≡◌, ⊤, false, List}
use Rattle.vx_smt_meaning.specs.Commands.{Command, DeclareFun, Assert, Level, declared_in}
use Rattle.vx_smt_meaning.specs.WellFormed.{names}
use Rattle.cs_numbers.specs.Laws.{IsSorted}

-- a declared symbol is new, and an assertion is well-sorted
abbrev pub MayAdd : List Level → Command → Type 0
MayAdd levels (DeclareFun d) = names (declared_in levels) d.symbol ≡ false
MayAdd levels (Assert t) = IsSorted t
MayAdd levels c = ⊤

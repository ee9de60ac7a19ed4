-- That no symbol is declared twice.
use Rattle.std.specs.Prelude.{Bool, true, false, if◌then◌else◌, List, [], ◌∷◌}
use Rattle.vx_smt_meaning.specs.Commands.{Declared}
use Rattle.vx_smt_meaning.specs.WellFormed.{names}

abbrev pub are_apart : List Declared → Bool
are_apart [] = true
are_apart (d ∷ ds) = if names ds d.symbol then false else are_apart ds

-- The words of the examples.
use Rattle.std.specs.Prelude.{ℕ}
use Rattle.vx_terms.specs.Sorts.{BoolSort}
use Rattle.vx_terms.specs.Terms.{Term}
use Rattle.vx_terms.specs.Build.{variable}
use Rattle.vx_smt_meaning.specs.Commands.{Command, DeclareFun}
use Rattle.vx_dialogue.specs.Symbols as symbols
use Rattle.vx_segments.specs.Segments.{Entry}

-- two symbols of sort Bool, v0 and v1
abbrev pub a : Term
a = variable 0 BoolSort

abbrev pub b : Term
b = variable 1 BoolSort

-- their declarations
abbrev pub declare_a : Command
declare_a = DeclareFun (symbols.variable 0 BoolSort)

abbrev pub declare_b : Command
declare_b = DeclareFun (symbols.variable 1 BoolSort)

-- a term in the segment with this number
abbrev pub at : ℕ → Term → Entry
at n t = record { segment = n; term = t }

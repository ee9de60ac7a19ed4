-- The symbols of a list of declarations.
use Rattle.std.specs.Prelude.{ℕ, List, map}
use Rattle.vx_smt_meaning.specs.Commands.{Declared}
use Rattle.vx_smt_meaning.specs.Views.{declared_symbol}
use Rattle.cs_index.specs.Under as indexes
use Rattle.cs_reader.specs.declared.symbols.Symbols.{Symbols}

abbrev pub declared_in : Symbols → List Declared
declared_in s = map declared_symbol s.declared.now

-- the places under a key
abbrev pub under : Symbols → ℕ → List ℕ
under s k = indexes.under s.index.now.index k

-- What an index of symbols holds.
use Rattle.std.specs.Prelude.{List}
use Rattle.vx_smt_meaning.specs.Commands.{Declared}
use Rattle.cs_index.specs.Exact.{IsExact}
use Rattle.cs_reader.specs.Keys.{declared_key}
use Rattle.cs_reader.specs.declared.index.SymbolIndex.{SymbolIndex}

-- under each key stand the places of the symbols of this key, in order, and nothing else
abbrev pub IsIndexOf : List Declared → SymbolIndex → Type 0
IsIndexOf ds i = IsExact declared_key ds i.index

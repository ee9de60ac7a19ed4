use Rattle.std.proofs.Common.{map, take}
use Rattle.vx_smt_meaning.specs.Views.{declared_symbol}
use Rattle.cs_reader.specs.Indexing.{IsIndexOf}
use Rattle.cs_reader.proofs.index.SymbolIndex.of.Given as goal

abbrev pub invariant-loop-at : goal.invariant-loop-at
invariant-loop-at l = IsIndexOf (map declared_symbol (take l.at l.declared)) l.index

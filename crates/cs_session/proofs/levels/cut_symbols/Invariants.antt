use Rattle.std.proofs.Common.{◌≡◌, ◌-◌, length, map, take}
use Rattle.vx_smt_meaning.specs.Views.{declared_symbol}
use Rattle.cs_reader.specs.Indexing.{IsIndexOf}
use Rattle.cs_session.proofs.levels.cut_symbols.Given as goal

abbrev pub invariant-loop-symbol : goal.invariant-loop-symbol
invariant-loop-symbol l =
    (l.symbols.items ≡ take (length l.fn.symbols.items - l._symbol) l.fn.symbols.items) × IsIndexOf (map declared_symbol l.symbols.items) l.index

-- A symbol is found under its key.
use Rattle.std.proofs.Common.{◌≡◌, sym, ap}
use Rattle.vx_terms.specs.Sorts.{Symbol, same_symbol}
use Rattle.vx_terms.proofs.Same.{symbol_is}
use Rattle.cs_index.specs.Found.{first, found}
use Rattle.cs_reader.specs.Keys.{symbol_key}
use Rattle.cs_reader.specs.Live.{declared_in, under}
use Rattle.cs_reader.specs.declared.symbols.Symbols.{Symbols}
use Rattle.cs_reader.proofs.Indexing.{found_in}

pub looked_up : (s : Symbols) (f : Symbol) → found (λ d. same_symbol f d.symbol) (declared_in s) (under s (symbol_key f)) ≡ first (λ d. same_symbol f d.symbol) (declared_in s)
looked_up s f = found_in s (λ d. same_symbol f d.symbol) (symbol_key f) (λ d e. ap symbol_key (sym (symbol_is f d.symbol e)))

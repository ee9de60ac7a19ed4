use Rattle.std.proofs.Common.{◌≡◌, drop}
use Rattle.vx_terms.specs.Sorts.{same_symbol}
use Rattle.vx_terms.specs.Views.{symbol}
use Rattle.cs_index.specs.Found.{first, found}
use Rattle.cs_reader.specs.Live.{declared_in}
use Rattle.cs_commands.proofs.live.place_of.Given as goal

abbrev pub invariant-loop-at : goal.invariant-loop-at
invariant-loop-at l =
    found (λ d. same_symbol (symbol l.f) d.symbol) (declared_in l.symbols) (drop l.at-index l.at-items)
    ≡ first (λ d. same_symbol (symbol l.f) d.symbol) (declared_in l.symbols)

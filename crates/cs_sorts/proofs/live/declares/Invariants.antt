use Rattle.std.proofs.Common.{◌≡◌, map, drop}
use Rattle.vx_terms.specs.Terms.{sort_of}
use Rattle.vx_terms.specs.Views.{terms, sort, symbol}
use Rattle.cs_certificate.specs.Terms.{items}
use Rattle.cs_index.specs.Found.{first, found}
use Rattle.cs_reader.specs.Live.{declared_in}
use Rattle.cs_sorts.specs.Sorting.{is_declaration}
use Rattle.cs_sorts.proofs.live.declares.Given as goal

abbrev pub invariant-loop-at : goal.invariant-loop-at
invariant-loop-at l =
    found (is_declaration (symbol l.f) (map sort_of (items (terms l.parts))) (sort l.gives)) (declared_in l.symbols) (drop l.at-index l.at-items)
    ≡ first (is_declaration (symbol l.f) (map sort_of (items (terms l.parts))) (sort l.gives)) (declared_in l.symbols)

use Rattle.std.proofs.Common.{◌≡◌, drop}
use Rattle.cs_index.specs.Found.{first, found}
use Rattle.cs_reader.specs.Live.{declared_in}
use Rattle.cs_reader.specs.Spelling.{spelled_by}
use Rattle.cs_reader.proofs.spell.place_of.Given as goal

abbrev pub invariant-loop-at : goal.invariant-loop-at
invariant-loop-at l = found (spelled_by l.text) (declared_in l.symbols) (drop l.at-index l.at-items) ≡ first (spelled_by l.text) (declared_in l.symbols)

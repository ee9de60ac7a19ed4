use Rattle.std.proofs.Common.{◌≡◌, drop}
use Rattle.vx_terms.specs.Views.{sort, symbol}
use Rattle.cs_model.specs.Elements.{elements}
use Rattle.cs_model.specs.Models.{found}
use Rattle.cs_model.proofs.tables.Model.look_up.Given as goal

abbrev pub invariant-loop-entry : goal.invariant-loop-entry
invariant-loop-entry l = found (symbol l.of) (sort l.at) (elements l.arguments) l.self.entries.items ≡ found (symbol l.of) (sort l.at) (elements l.arguments) (drop l.entry-index l.self.entries.items)

use Rattle.std.proofs.Common.{◌≡◌, ◌++◌, map, drop}
use Rattle.cs_table.specs.Views as views
use Rattle.cs_model.specs.Elements as clean
use Rattle.cs_tables.specs.Told.{told_at}
use Rattle.cs_tables.proofs.elements.elements.Given as goal

abbrev pub invariant-loop-number : goal.invariant-loop-number
invariant-loop-number l =
    map (told_at (views.nodes l.nodes) l.truths l.classes) l.numbers
    ≡ clean.elements l.found.items ++ map (told_at (views.nodes l.nodes) l.truths l.classes) (drop l.number-index l.numbers)

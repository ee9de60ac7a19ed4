use Rattle.std.proofs.Common.{◌≡◌, ◌++◌, drop}
use Rattle.cs_table.specs.Views as views
use Rattle.cs_tables.specs.Told.{told_at}
use Rattle.cs_tables.specs.Lines.{lines, lines_from}
use Rattle.cs_tables.proofs.tables.entries_of.Given as goal

abbrev pub invariant-loop-number : goal.invariant-loop-number
invariant-loop-number l =
    lines_from (told_at (views.nodes l.nodes) l.truths l.classes) 0 (views.nodes l.nodes)
    ≡ lines l.entries.items ++ lines_from (told_at (views.nodes l.nodes) l.truths l.classes) l.number (views.nodes (drop l.number l.nodes))

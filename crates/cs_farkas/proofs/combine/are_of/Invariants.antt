use Rattle.std.proofs.Common.{◌≡◌, map, drop}
use Rattle.std.specs.List.{list_all}
use Rattle.cs_table.specs.Views.{nodes}
use Rattle.cs_farkas.specs.Rows.{is_of}
use Rattle.cs_farkas.specs.Views as views
use Rattle.cs_farkas.proofs.combine.are_of.Given as goal

abbrev pub invariant-loop-part : goal.invariant-loop-part
invariant-loop-part l = list_all (is_of (nodes l.all) (views.sort_of l.numbers)) (map views.part l.parts) ≡ list_all (is_of (nodes l.all) (views.sort_of l.numbers)) (map views.part (drop l.part-index l.parts))

use Rattle.std.proofs.Common.{◌≡◌, map, drop}
use Rattle.std.specs.List.{list_any}
use Rattle.cs_farkas.specs.Rows.{is_strict}
use Rattle.cs_farkas.specs.Views as views
use Rattle.cs_farkas.proofs.combine.has_strict.Given as goal

abbrev pub invariant-loop-part : goal.invariant-loop-part
invariant-loop-part l = list_any (is_strict (views.sort_of l.numbers)) (map views.part l.parts) ≡ list_any (is_strict (views.sort_of l.numbers)) (map views.part (drop l.part-index l.parts))

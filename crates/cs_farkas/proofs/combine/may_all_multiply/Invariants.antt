use Rattle.std.proofs.Common.{◌≡◌, map, drop}
use Rattle.std.specs.List.{list_all}
use Rattle.cs_farkas.specs.Rows.{may_multiply}
use Rattle.cs_farkas.specs.Views as views
use Rattle.cs_farkas.proofs.combine.may_all_multiply.Given as goal

abbrev pub invariant-loop-part : goal.invariant-loop-part
invariant-loop-part l = list_all may_multiply (map views.part l.parts) ≡ list_all may_multiply (map views.part (drop l.part-index l.parts))

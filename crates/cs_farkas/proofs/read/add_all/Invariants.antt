use Rattle.std.proofs.Common.{◌≡◌, drop, map}
use Rattle.cs_table.specs.Views.{nodes}
use Rattle.cs_farkas.specs.Rows.{add_all}
use Rattle.cs_farkas.specs.Views.{sums, width, sort_of, part}
use Rattle.cs_farkas.proofs.read.add_all.Given as goal

abbrev pub invariant-loop-part : goal.invariant-loop-part
invariant-loop-part l = record {
  so_far : add_all (nodes l.all) (sort_of l.numbers) (map part l.parts) (sums l.initial.to) ≡ add_all (nodes l.all) (sort_of l.numbers) (map part (drop l.part-index l.parts)) (sums l.to);
  same_width : width l.to ≡ width l.initial.to;
}

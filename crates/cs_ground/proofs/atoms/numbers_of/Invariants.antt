use Rattle.std.proofs.Common.{◌≡◌, ◌≤◌, length, take}
use Rattle.cs_table.specs.Views.{nodes}
use Rattle.cs_ground.specs.Atoms.{AreAtoms}
use Rattle.cs_ground.proofs.atoms.numbers_of.Given as goal

abbrev pub invariant-loop-number : goal.invariant-loop-number
invariant-loop-number l = record {
  few : length l.terms.items ≤ l.number;
  count : length l.places.items ≡ l.number;
  atoms : AreAtoms (nodes (take l.number l.nodes)) l.terms.items l.places.items;
}

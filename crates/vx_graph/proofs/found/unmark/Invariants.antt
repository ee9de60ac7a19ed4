use Rattle.std.proofs.Common.{◌≡◌, ℕ, length, take, ◌&&◌}
use Rattle.std.specs.Prelude.{not}
use Rattle.vx_graph.specs.Listed.{is_in, is_marked}
use Rattle.vx_graph.proofs.found.unmark.Given as goal

abbrev pub invariant-loop-m : goal.invariant-loop-m
invariant-loop-m l = record {
  members : length l.marks.items ≡ length l.fn.marks.items;
  marks : (n : ℕ) → is_marked l.marks.items n ≡ (is_marked l.fn.marks.items n && not (is_in (take l.m-index l.members) n));
}

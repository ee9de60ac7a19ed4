use Rattle.std.proofs.Common.{◌≡◌, ℕ, length, take, if◌then◌else◌}
use Rattle.std.specs.Prelude.{Some}
use Rattle.vx_graph.specs.Groups.{root_at}
use Rattle.vx_graph.specs.Listed.{is_in}
use Rattle.vx_graph.proofs.groups.set_root.Given as goal

abbrev pub invariant-loop-m : goal.invariant-loop-m
invariant-loop-m l = record {
  members : length l.roots.items ≡ length l.fn.roots.items;
  roots : (n : ℕ) → root_at l.roots.items n ≡ (if is_in (take l.m-index l.group) n then Some l.root else root_at l.fn.roots.items n);
}

use Rattle.std.proofs.Common.{◌≡◌}
use Rattle.vx_edge.specs.Ahead.{Grows}
use Rattle.vx_edge.proofs.child.ChildLink.put.Given as goal

abbrev pub invariant-loop : goal.invariant-loop
invariant-loop l =
    record {
      ahead : Grows l.fn.self.ahead l.self.ahead;
      pieces : l.self.pieces ≡ l.fn.self.pieces;
      faults : l.self.faults ≡ l.fn.self.faults;
    }

use Rattle.std.proofs.Common.{◌≡◌, ℕ, ◌≤◌, ◌-◌}
use Rattle.vx_sexp.specs.Pieces.{Reached}
use Rattle.cs_serve.specs.Serving.{most}
use Rattle.cs_serve.specs.Working.{Before, Stands}
use Rattle.cs_serve.proofs.solver.Solver.run.Given as goal

abbrev pub invariant-pieces : goal.invariant-pieces
invariant-pieces g l =
    let D = g.D.Duplex in
    record {
      reached : Reached l.self.reading l.self.left.items;
      low : l.self.total ≤ most;
      works : (before : Before) → Stands before (D.given l.fn.ends) (D.taken l.fn.ends) (D.dialogue l.fn.ends) l.fn.self
          → Stands before (D.given l.ends) (D.taken l.ends) (D.dialogue l.ends) l.self;
      source : D.read_faults l.fn.ends ≤ D.read_faults l.ends;
      sink : D.put_faults l.ends ≡ D.put_faults l.fn.ends;
      at_end : D.at_end l.ends ≡ D.at_end l.fn.ends;
      names : D.names l.ends ≡ D.names l.fn.ends;
    }

abbrev pub decreases-pieces : goal.decreases-pieces
decreases-pieces g l = most - l.self.total

use Rattle.std.proofs.Common.{◌≡◌, ◌++◌, drop, length}
use Rattle.vx_ends.specs.Cuts.{pieces_of, total}
use Rattle.vx_ends.proofs.record.Record.pieces.Given as goal

abbrev pub invariant-loop-cut : goal.invariant-loop-cut
invariant-loop-cut l = (l.pieces.items ++ pieces_of (drop l.cut-index l.cut-items) l.rest ≡ l.self) × (total (drop l.cut-index l.cut-items) ≡ length l.rest)

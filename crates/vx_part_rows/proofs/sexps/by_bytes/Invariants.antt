use Rattle.std.proofs.Common.{take}
use Rattle.vx_sexp.specs.Pieces.{Reached}
use Rattle.vx_part_rows.proofs.sexps.by_bytes.Given as goal

abbrev pub invariant-loop-end : goal.invariant-loop-end
invariant-loop-end l = Reached l.reading (take l.end l.text)

use Rattle.std.proofs.Common.{◌≡◌, map, take}
use Rattle.std.specs.Prelude.{flat_map}
use Rattle.vx_words.specs.Solvers.{filled_between_tabs}
use Rattle.vx_words.proofs.solver.parts_of.Given as goal

abbrev pub invariant-loop-piece : goal.invariant-loop-piece
invariant-loop-piece l = l.parts ≡ flat_map filled_between_tabs (map (λ piece. piece.now) (take l.piece-index l.piece-items))

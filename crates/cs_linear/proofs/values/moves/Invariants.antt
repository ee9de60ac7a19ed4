use Rattle.std.proofs.Common.{All, ◌<◌, length}
use Rattle.vx_frac.specs.Fraction.{fraction}
use Rattle.cs_linear.specs.declared.values.Move.{Move}
use Rattle.cs_linear.specs.Rows.{Homes, IsFree, IsTableau}
use Rattle.cs_linear.specs.Values.{AreFollowing, arrived}
use Rattle.cs_linear.proofs.values.moves.Given as goal

abbrev pub invariant-loop-row : goal.invariant-loop-row
invariant-loop-row l = record {
  following : (homes : Homes) → IsTableau l.rows homes → IsFree homes l.column → AreFollowing l.row-index l.rows homes l.column (fraction l.by) l.values (arrived l.moves.items l.values);
  within : All (λ (m : Move). m.column < length l.values) l.moves.items;
}

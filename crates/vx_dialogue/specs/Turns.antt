-- What a dialogue is asked, turn by turn.
use Rattle.std.specs.Prelude.{List}
use Rattle.vx_terms.specs.Terms.{Term}

-- A turn asks whether a condition follows from a path, and has the reply; it asks, and has none yet; or it leaves the member.
pub data Turn : Type 0 where
  Asks : List Term → Term → Turn
  Posts : List Term → Term → Turn
  Leaves : Turn

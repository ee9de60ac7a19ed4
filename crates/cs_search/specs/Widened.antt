-- A table with room for more atoms.
use Rattle.std.specs.Prelude.{◌≡◌, ◌≤◌, List, length}
use Rattle.cs_certificate.specs.declared.literal.Literal.{Literal}
use Rattle.cs_search.specs.declared.Value.{Value}
use Rattle.cs_search.specs.Assignment.{status_of}

pub record IsWidened (old new : List Value) : Type 0 where
  pub same : (l : Literal) → status_of new l ≡ status_of old l
  pub longer : length old ≤ length new

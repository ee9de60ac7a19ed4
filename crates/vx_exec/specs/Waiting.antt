-- What waits for a value, and neither writes to a chunk nor reaches into another member.
use Rattle.std.specs.Prelude.{Bool, true, false}
use Rattle.vx_stack.specs.declared.waiting.Executed.{Executed}
use Rattle.vx_stack.specs.declared.waiting.Executed.TheVariants as executed'

abbrev pub is_plain : Executed → Bool
is_plain (executed'.WriteWith at f r) = false
is_plain (executed'.Fold at i es) = false
is_plain (executed'.Unfold at i es) = false
is_plain (executed'.Folded x c) = false
is_plain (executed'.Called c) = false
is_plain w = true

-- What waits for a value that is no location's receiver: no share is still to be evaluated.
use Rattle.std.specs.Prelude.{Bool, true, false}
use Rattle.vx_stack.specs.declared.waiting.Consumed.{Consumed}
use Rattle.vx_stack.specs.declared.waiting.Consumed.TheVariants as consumed'

abbrev pub is_evaluated : Consumed → Bool
is_evaluated (consumed'.Share at f e x h) = false
is_evaluated w = true

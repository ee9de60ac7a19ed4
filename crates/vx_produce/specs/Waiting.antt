-- What waits for a value that is no location's receiver: no share is still to be evaluated.
use Rattle.std.specs.Prelude.{Bool, true, false}
use Rattle.vx_stack.specs.declared.waiting.Produced.{Produced}
use Rattle.vx_stack.specs.declared.waiting.Produced.TheVariants as produced'

abbrev pub is_evaluated : Produced → Bool
is_evaluated (produced'.Share at f e x inside) = false
is_evaluated w = true

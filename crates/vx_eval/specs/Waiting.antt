-- What waits for a value, and neither reads a field nor applies a function.
use Rattle.std.specs.Prelude.{Bool, true, false}
use Rattle.vx_stack.specs.declared.waiting.Operand.{Operand}
use Rattle.vx_stack.specs.declared.waiting.Operand.TheVariants as operand'

abbrev pub is_plain : Operand → Bool
is_plain (operand'.Receiver at f) = false
is_plain (operand'.Applied x c h) = false
is_plain (operand'.Measured x own c) = false
is_plain w = true

-- What a step is made from: neither an impossible end, nor the way back from a part, nor a value that is written over all chunks, nor what
-- an application tells.
use Rattle.std.specs.Prelude.{Bool, true, false}
use Rattle.vx_stack.specs.declared.frame.Next.{Next}
use Rattle.vx_stack.specs.declared.frame.Next.TheVariants as next'
use Rattle.vx_stack.specs.declared.frame.Frame.{Frame}
use Rattle.vx_stack.specs.declared.frame.Frame.TheVariants as frame'

abbrev pub is_step : Next → Bool
is_step next'.Impossible = false
is_step (next'.WriteOver' f r t q n) = false
is_step (next'.Back' c q n) = false
is_step (next'.Tell' x q h) = false
is_step n = true

abbrev pub is_plain : Frame → Bool
is_plain (frame'.Go n) = is_step n.value
is_plain (frame'.Eval e h) = true
is_plain (frame'.Give t h) = true
is_plain (frame'.GiveAll ts r) = true

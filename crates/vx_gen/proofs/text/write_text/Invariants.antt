-- What is written is the first lines and the methods so far.
use Rattle.std.proofs.Common.{◌≡◌, string_bytes}
use Rattle.vx_gen.specs.Generated.{generated}
use Rattle.vx_gen.proofs.text.write_text.Given as goal

abbrev pub invariant-loop-number : goal.invariant-loop-number
invariant-loop-number l = string_bytes l.out ≡ generated l.number

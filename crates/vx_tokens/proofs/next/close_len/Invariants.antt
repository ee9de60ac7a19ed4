use Rattle.std.proofs.Common.{◌≡◌, ◌+◌, length}
use Rattle.std.specs.Prelude.{option_map}
use Rattle.vx_tokens.specs.Text.{close_len}
use Rattle.vx_tokens.proofs.next.close_len.Given as goal

-- what is found further on is found
abbrev pub invariant-loop-rest : goal.invariant-loop-rest
invariant-loop-rest l = record {
  found : option_map (λ n. l.at + n) (close_len l.rest) ≡ close_len l.bytes;
  sum : l.at + length l.rest ≡ length l.bytes;
}

abbrev pub decreases-loop-rest : goal.decreases-loop-rest
decreases-loop-rest l = length l.rest

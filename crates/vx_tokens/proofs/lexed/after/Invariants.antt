use Rattle.std.proofs.Common.{◌≡◌, ◌≤◌, ◌+◌, drop}
use Rattle.vx_tokens.specs.Text.{after}
use Rattle.vx_tokens.proofs.lexed.after.Given as goal

-- the bytes that are left lead to the same place
abbrev pub invariant-loop-byte : goal.invariant-loop-byte
invariant-loop-byte l = record {
  rest : after l.place (drop l.byte-index l.bytes) ≡ after l.fn.place l.bytes;
  line : l.place.line ≤ l.fn.place.line + l.byte-index;
  column : l.place.column ≤ l.fn.place.column + l.byte-index;
}

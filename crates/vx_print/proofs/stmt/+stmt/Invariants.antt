use Rattle.std.proofs.Common.{◌≡◌, drop, string_bytes}
use Rattle.vx_print.specs.Canonical.{block_tokens}
use Rattle.vx_print.specs.Views.{statements}
use Rattle.vx_print.specs.Words.{behind}
use Rattle.vx_print.proofs.stmt.+stmt.Given as goal

-- what is left gives the same text
abbrev pub invariant-put_stmts-loop-s : goal.invariant-put_stmts-loop-s
invariant-put_stmts-loop-s l = behind (string_bytes l.out) (block_tokens (statements (drop l.s-index l.all))) ≡ behind (string_bytes l.fn.out) (block_tokens (statements l.all))

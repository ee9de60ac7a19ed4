use Rattle.std.proofs.Common.{◌≡◌, drop, string_bytes}
use Rattle.vx_ast.specs.Written.{written_all}
use Rattle.vx_print.specs.Canonical.{exprs_tokens, further_tokens}
use Rattle.vx_print.specs.Words.{behind}
use Rattle.vx_print.proofs.expr.+expr.Given as goal

-- what is left gives the same text
abbrev pub invariant-put_exprs-loop-e : goal.invariant-put_exprs-loop-e
invariant-put_exprs-loop-e l = behind (string_bytes l.out) (further_tokens (written_all (drop l.e-index l.rest))) ≡ behind (string_bytes l.fn.out) (exprs_tokens (written_all l.es))

use Rattle.std.proofs.Common.{◌≡◌, drop, string_bytes}
use Rattle.vx_ast.specs.Written.{written_all}
use Rattle.vx_print.specs.Canonical.{invariants_tokens}
use Rattle.vx_print.specs.Words.{behind}
use Rattle.vx_print.proofs.stmt.put_invariants.Given as goal

-- what is left gives the same text
abbrev pub invariant-loop-e : goal.invariant-loop-e
invariant-loop-e l = behind (string_bytes l.out) (invariants_tokens (written_all (drop l.e-index l.es))) ≡ behind (string_bytes l.fn.out) (invariants_tokens (written_all l.es))

use Rattle.std.proofs.Common.{◌≡◌, drop, map, string_bytes}
use Rattle.vx_ast.specs.Written.{written_clause}
use Rattle.vx_print.specs.Canonical.{contract_tokens}
use Rattle.vx_print.specs.Words.{behind}
use Rattle.vx_print.proofs.member.put_contract.Given as goal

-- what is left gives the same text
abbrev pub invariant-loop-c : goal.invariant-loop-c
invariant-loop-c l = behind (string_bytes l.out) (contract_tokens (map written_clause (drop l.c-index l.clauses))) ≡ behind (string_bytes l.fn.out) (contract_tokens (map written_clause l.clauses))

use Rattle.std.proofs.Common.{◌≡◌, drop, map, string_bytes}
use Rattle.vx_ast.specs.Written.{written_declaration}
use Rattle.vx_print.specs.Canonical.{declarations_tokens, further_declarations}
use Rattle.vx_print.specs.Words.{behind}
use Rattle.vx_print.proofs.member.put_declarations.Given as goal

-- what is left gives the same text
abbrev pub invariant-loop-d : goal.invariant-loop-d
invariant-loop-d l = behind (string_bytes l.out) (further_declarations (map written_declaration (drop l.d-index l.rest))) ≡ behind (string_bytes l.fn.out) (declarations_tokens (map written_declaration l.all))

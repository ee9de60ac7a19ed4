use Rattle.std.proofs.Common.{◌≡◌, drop, map, string_bytes}
use Rattle.vx_ast.specs.Written.{name_of}
use Rattle.vx_print.specs.Canonical.{names_tokens, further_names}
use Rattle.vx_print.specs.Words.{behind}
use Rattle.vx_print.proofs.stmt.put_names.Given as goal

-- what is left gives the same text
abbrev pub invariant-loop-x : goal.invariant-loop-x
invariant-loop-x l = behind (string_bytes l.out) (further_names (map name_of (drop l.x-index l.rest))) ≡ behind (string_bytes l.fn.out) (names_tokens (map name_of l.names))

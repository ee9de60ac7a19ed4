use Rattle.std.proofs.Common.{◌≡◌, ◌++◌, drop, map, string_bytes, vec_items}
use Rattle.vx_ast.specs.Written.{written_member, written_program}
use Rattle.vx_print.specs.Canonical.{canonical_text}
use Rattle.vx_print.proofs.member.print.Given as goal

-- what is left gives the same text
abbrev pub invariant-loop-m : goal.invariant-loop-m
invariant-loop-m l = string_bytes l.out ++ canonical_text (map written_member (drop l.m-index (vec_items l.program.members))) ≡ canonical_text (written_program l.program)

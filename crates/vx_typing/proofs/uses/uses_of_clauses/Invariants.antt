use Rattle.std.proofs.Common.{◌≡◌, ◌++◌, List, drop, map}
use Rattle.vx_ast.specs.Written.{written_clause}
use Rattle.vx_typing.specs.Uses.{Use, uses_of_clauses}
use Rattle.vx_typing.specs.Seen.{seen}
use Rattle.vx_typing.proofs.uses.uses_of_clauses.Given as goal

abbrev pub invariant-loop-c : goal.invariant-loop-c
invariant-loop-c l = (rest : List Use) → seen l.found.items ++ uses_of_clauses (map written_clause (drop l.c-index l.cs)) rest ≡ seen l.initial.found.items ++ uses_of_clauses (map written_clause l.cs) rest

use Rattle.std.proofs.Common.{◌≡◌, ◌++◌, List, drop}
use Rattle.vx_ast.specs.Written.{written_all}
use Rattle.vx_typing.specs.Uses.{Use, uses_in}
use Rattle.vx_typing.specs.Seen.{seen}
use Rattle.vx_typing.proofs.uses.+using.Given as goal

abbrev pub invariant-uses_in-loop-e : goal.invariant-uses_in-loop-e
invariant-uses_in-loop-e l = (rest : List Use) → seen l.found.items ++ uses_in (written_all (drop l.e-index l.es)) rest ≡ seen l.initial.found.items ++ uses_in (written_all l.es) rest

use Rattle.std.proofs.Common.{◌≡◌, map, take}
use Rattle.vx_terms.specs.Views.{sort}
use Rattle.vx_smt_meaning.proofs.command.copy_sorts.Given as goal

abbrev pub invariant-loop-a : goal.invariant-loop-a
invariant-loop-a l = map sort l.copy.items ≡ map sort (take l.a-index l.sorts)

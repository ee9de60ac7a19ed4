use Rattle.std.proofs.Common.{◌≡◌, ◌∷◌, map, take}
use Rattle.cs_certificate.specs.Steps.{denial}
use Rattle.cs_table.specs.Gives.{clause, numbered}
use Rattle.cs_table.proofs.steps.with_denials.Given as goal

abbrev pub invariant-loop-part : goal.invariant-loop-part
invariant-loop-part l = clause l.clause.items ≡ numbered l.fn.first ∷ map denial (take l.part-index l.parts)

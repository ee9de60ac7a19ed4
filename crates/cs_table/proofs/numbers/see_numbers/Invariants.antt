use Rattle.std.proofs.Common.{◌≡◌, ℤ, [], drop, FitsSigned}
use Rattle.std.specs.Int.{w128}
use Rattle.cs_certificate.specs.Terms.{NumberHead}
use Rattle.cs_certificate.specs.Nodes.{number_of}
use Rattle.cs_table.specs.Views.{nodes}
use Rattle.cs_table.proofs.Shifts.{shifted}
use Rattle.cs_table.proofs.numbers.see_numbers.Given as goal

abbrev pub invariant-loop-node : goal.invariant-loop-node
invariant-loop-node l = (z : ℤ) → ¬ (FitsSigned w128 z) → number_of (nodes l.all) (NumberHead z) [] ≡ shifted l.node-index (number_of (nodes (drop l.node-index l.all)) (NumberHead z) [])

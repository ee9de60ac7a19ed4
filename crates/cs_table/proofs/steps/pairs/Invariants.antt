use Rattle.std.proofs.Common.{◌≡◌, drop}
use Rattle.cs_certificate.specs.Steps.{pairs}
use Rattle.cs_table.specs.Table.{nodes_in}
use Rattle.cs_table.specs.Gives.{clause}
use Rattle.cs_table.proofs.Pairs.{joined}
use Rattle.cs_table.proofs.steps.pairs.Given as goal

abbrev pub invariant-loop-at : goal.invariant-loop-at
invariant-loop-at l = pairs (nodes_in l.all) l.xs l.ys ≡ joined (clause l.denials.items) (pairs (nodes_in l.all) (drop l.at l.xs) (drop l.at l.ys))

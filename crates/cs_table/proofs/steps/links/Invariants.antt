use Rattle.std.proofs.Common.{◌≡◌, ◌++◌, List, Option, Some, drop, ℕ}
use Rattle.cs_certificate.specs.Certificate.{NumberedLiteral}
use Rattle.cs_certificate.specs.Steps.{◌>>=◌, links}
use Rattle.cs_table.specs.Table.{nodes_in}
use Rattle.cs_table.specs.Gives.{clause}
use Rattle.cs_table.proofs.steps.links.Given as goal

abbrev pub with_front : List NumberedLiteral → Option (List NumberedLiteral × ℕ) → Option (List NumberedLiteral × ℕ)
with_front ls o = o >>= λ r. Some (ls ++ r.0, r.1)

abbrev pub invariant-loop-term : goal.invariant-loop-term
invariant-loop-term l = with_front (clause l.denials.items) (links (nodes_in l.all) l.last (drop l.term-index l.terms)) ≡ links (nodes_in l.fn.all) l.fn.first l.fn.terms

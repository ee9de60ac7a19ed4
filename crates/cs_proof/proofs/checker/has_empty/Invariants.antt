use Rattle.std.proofs.Common.{◌≡◌, drop}
use Rattle.std.specs.List.{list_any}
use Rattle.cs_proof.specs.Checking.{is_empty}
use Rattle.cs_proof.proofs.checker.has_empty.Given as goal

abbrev pub invariant-loop-clause : goal.invariant-loop-clause
invariant-loop-clause l = list_any is_empty l.clauses ≡ list_any is_empty (drop l.clause-index l.clauses)

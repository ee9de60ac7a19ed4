use Rattle.cs_search.specs.Search.{IsReady}
use Rattle.cs_record.proofs.clauses.search_of.Given as goal

abbrev pub invariant-loop-clause : goal.invariant-loop-clause
invariant-loop-clause l = IsReady l.search

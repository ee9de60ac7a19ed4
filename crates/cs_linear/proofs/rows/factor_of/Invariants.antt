use Rattle.cs_linear.specs.Merged.{IsLooked}
use Rattle.cs_linear.proofs.rows.factor_of.Given as goal

abbrev pub invariant-loop-entry : goal.invariant-loop-entry
invariant-loop-entry l = IsLooked l.entries l.column l.entry-index

use Rattle.cs_derivation.proofs.Plain.{finishes}
use Rattle.cs_derivation.proofs.empty_clauses_finish.Goals as goal

pub returns : goal.returns
returns c = finishes

use Rattle.cs_search.proofs.Refuted.{derived_refutes}
use Rattle.cs_search.proofs.laws.derived_refutes.Goals as goal

pub returns : goal.returns
returns c = derived_refutes

use Rattle.std.proofs.Common.{rules}
use Rattle.cs_derivation.proofs.derivation.Derivation.shows.Goals as goal

pub returns-in-Named-clause-value : goal.returns-in-Named-clause-value
returns-in-Named-clause-value c = search rules

pub returns-in-Named-2-clause-value : goal.returns-in-Named-2-clause-value
returns-in-Named-2-clause-value c = search rules

pub returns-in-Named-3-clause-value : goal.returns-in-Named-3-clause-value
returns-in-Named-3-clause-value c = search rules

use Rattle.vx_examples.proofs.Stated.{heaps_and_holdings_not_fresh, heaps_and_holdings_null_not_fresh}
use Rattle.vx_examples.proofs.values.heaps_and_holdings.Goals as goal

pub returns-clause-not_fresh : goal.returns-clause-not_fresh
returns-clause-not_fresh c = heaps_and_holdings_not_fresh

pub returns-clause-null_not_fresh : goal.returns-clause-null_not_fresh
returns-clause-null_not_fresh c = heaps_and_holdings_null_not_fresh

use Rattle.vx_elements.proofs.Kept.{known_is_kept, fresh_is_free}
use Rattle.vx_elements.proofs.symbols_keep_values.Goals as goal

pub returns-clause-known : goal.returns-clause-known
returns-clause-known c = known_is_kept

pub returns-clause-fresh : goal.returns-clause-fresh
returns-clause-fresh c = fresh_is_free

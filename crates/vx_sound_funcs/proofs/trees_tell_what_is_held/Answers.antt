use Rattle.vx_sound_funcs.proofs.Laws.{held_told, entries_told, holdings_told, passed_held, passed_entries, passed_holdings}
use Rattle.vx_sound_funcs.proofs.trees_tell_what_is_held.Goals as goal

pub returns-clause-values : goal.returns-clause-values
returns-clause-values c = held_told

pub returns-clause-entries : goal.returns-clause-entries
returns-clause-entries c = entries_told

pub returns-clause-holdings : goal.returns-clause-holdings
returns-clause-holdings c = holdings_told

pub returns-clause-passed : goal.returns-clause-passed
returns-clause-passed c = λ p x replies typed pass. (passed_held p x replies typed pass, passed_entries p x replies typed pass, passed_holdings p x replies typed pass)

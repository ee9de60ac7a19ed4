use Rattle.vx_sound_funcs.proofs.Laws.{firm_told, passed_firm}
use Rattle.vx_sound_funcs.proofs.trees_tell_firm_values.Goals as goal

pub returns-clause-told : goal.returns-clause-told
returns-clause-told c = firm_told

pub returns-clause-passed : goal.returns-clause-passed
returns-clause-passed c = passed_firm

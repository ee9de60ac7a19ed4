use Rattle.vx_types.proofs.Alone.{alone}
use Rattle.vx_types.proofs.field_methods_stand_alone.Goals as goal

pub returns : goal.returns
returns c = alone

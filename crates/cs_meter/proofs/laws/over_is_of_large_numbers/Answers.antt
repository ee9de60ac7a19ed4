use Rattle.cs_meter.proofs.Large as proved
use Rattle.cs_meter.proofs.laws.over_is_of_large_numbers.Goals as goal

pub returns : goal.returns
returns c = proved.over_is_of_large_numbers

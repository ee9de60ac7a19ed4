use Rattle.cs_farkas.proofs.Decided as proved
use Rattle.cs_farkas.proofs.Widths.{any_width}
use Rattle.cs_farkas.proofs.farkas_by_number.Goals as goal

pub returns-clause-decided : goal.returns-clause-decided
returns-clause-decided c = proved.farkas_by_number

pub returns-clause-width : goal.returns-clause-width
returns-clause-width c = any_width

use Rattle.cs_ground.proofs.Satisfied as proved
use Rattle.cs_ground.proofs.satisfied_assigns.Goals as goal

pub returns : goal.returns
returns c = record { equivalence = proved.equivalence; agrees = proved.agrees; assigns = proved.assigns }

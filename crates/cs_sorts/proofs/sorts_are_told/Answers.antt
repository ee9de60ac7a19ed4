use Rattle.cs_sorts.proofs.Told as proved
use Rattle.cs_sorts.proofs.sorts_are_told.Goals as goal

pub returns-clause-sorts : goal.returns-clause-sorts
returns-clause-sorts c = proved.tells_sorts

pub returns-clause-live : goal.returns-clause-live
returns-clause-live c = proved.tells_live

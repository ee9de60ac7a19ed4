use Rattle.std.proofs.Common.{refl}
use Rattle.vx_settled.specs.Recursions.{counts_down, applies_itself_before}
use Rattle.vx_settled.proofs.Recursions.{leads_back, not_apart}
use Rattle.vx_settled.proofs.recursions_are_told_apart.Goals as goal

pub returns-clause-leads_back : goal.returns-clause-leads_back
returns-clause-leads_back c = leads_back

pub returns-clause-typed : goal.returns-clause-typed
returns-clause-typed c = (c.programs_are_told.ensures.programs counts_down).0 refl

pub returns-clause-apart : goal.returns-clause-apart
returns-clause-apart c = c.typed_programs_keep_apart.ensures.apart counts_down ((c.programs_are_told.ensures.programs counts_down).0 refl)

pub returns-clause-not_apart : goal.returns-clause-not_apart
returns-clause-not_apart c = not_apart

pub returns-clause-not_typed : goal.returns-clause-not_typed
returns-clause-not_typed c typed = not_apart (c.typed_programs_keep_apart.ensures.apart applies_itself_before typed)

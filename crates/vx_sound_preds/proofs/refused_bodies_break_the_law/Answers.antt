use Rattle.vx_sound_preds.proofs.Counterexamples.{never_grounded, nothing_held}
use Rattle.vx_sound_preds.proofs.refused_bodies_break_the_law.Goals as goal

pub returns-clause-never_grounded : goal.returns-clause-never_grounded
returns-clause-never_grounded c = never_grounded

pub returns-clause-nothing_held : goal.returns-clause-nothing_held
returns-clause-nothing_held c = nothing_held

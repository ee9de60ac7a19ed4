use Rattle.std.proofs.Common.{◌∷◌, ap, ◌∙◌, add-one}
use Rattle.vx_smt_meaning.specs.Commands.{empty_level}
use Rattle.cs_session.proofs.levels.Levels.open_all.Goals as goal

pub loop-level-preserved : goal.loop-level-preserved
loop-level-preserved c = rw add-one (c.in_ok-open_one.ensures ∙ ap (λ x. empty_level ∷ x) c.loop-level.invariant)

use Rattle.std.proofs.Common.{take, ap, ◌∙◌}
use Rattle.vx_terms.specs.Views.{term}
use Rattle.vx_dialogue.proofs.Counted.{asked_sound}
use Rattle.vx_dialogue.proofs.standing.Standing.ask.Goals as goal

pub returns-clause-sound : goal.returns-clause-sound
returns-clause-sound c =
    asked_sound c.args.self.now _ (term c.deref.result.now) c.in_ok-before.before c.put_missing.ensures.same
    (c.back_to.ensures ∙ ap (take c.in_ok-before.before) c.in_ok-before.ensures.declared) c.in_ok-before.ensures.before c.requires

use Rattle.std.proofs.Common.{refl, ap, ◌∙◌, sym, subst}
use Rattle.vx_dialogue.specs.Scripts.{Leaves, left, script}
use Rattle.vx_dialogue.specs.Dialogue.{Gathers}
use Rattle.vx_dialogue.proofs.Moved.{gathers_same}
use Rattle.vx_dialogue.proofs.Levels.{script_left, scope_more}
use Rattle.vx_dialogue.proofs.dialogue.Dialogue.leave.Goals as goal

pub returns-clause-stands : goal.returns-clause-stands
returns-clause-stands g c = λ certify functions turns checks stands.
    let old = c.args.self.now in
    let new = record old { levels = c.leave.new.self } in
    record {
      told = subst (λ x. Gathers g.L.Link.dialogue new x checks) (sym (script_left certify functions turns))
          (gathers_same g.L.Link.dialogue old new refl refl refl refl (script certify functions turns) checks stands.told);
      scope = c.leave.ensures.scope ∙ ap left stands.scope ∙ sym (scope_more turns Leaves);
    }

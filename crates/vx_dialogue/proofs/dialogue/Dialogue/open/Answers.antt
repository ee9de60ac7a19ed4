use Rattle.std.proofs.Common.{rules, [], map, refl, ap, ◌∙◌, sym, subst}
use Rattle.vx_smt_meaning.specs.Views.{declared_symbol}
use Rattle.vx_dialogue.specs.Places.{scope}
use Rattle.vx_dialogue.specs.Dialogue.{Gathers}
use Rattle.vx_dialogue.proofs.Told.{gathers_none}
use Rattle.vx_dialogue.proofs.Levels.{script_none}
use Rattle.vx_dialogue.proofs.dialogue.Dialogue.open.Goals as goal

pub returns-in-Ok-clause-stands : goal.returns-in-Ok-clause-stands
returns-in-Ok-clause-stands g c = record {
  told = subst (λ x. Gathers g.L.Link.dialogue c.start.new.self x []) (sym (script_none c.args.certify (map declared_symbol c.args.functions.now)))
      (c.in-Ok.ensures.told [] [] (gathers_none g.L.Link.dialogue _ c.requires (search rules) refl (search rules)));
  scope = ap scope c.start.ensures.same.0 ∙ c.new-3.ensures.scope;
}

pub returns-in-Err-clause-fault : goal.returns-in-Err-clause-fault
returns-in-Err-clause-fault g c =
    λ named. rw c.close.ensures (c.in-Err.ensures.fault [] [] (gathers_none g.L.Link.dialogue _ c.requires (search rules) refl (search rules)) named)

pub returns-in-Ok-clause-steady : goal.returns-in-Ok-clause-steady
returns-in-Ok-clause-steady g c = λ steady named. c.start.ensures.steady steady [] [] (gathers_none g.L.Link.dialogue _ c.requires (search rules) refl (search rules)) named

pub returns-in-Err-clause-steady : goal.returns-in-Err-clause-steady
returns-in-Err-clause-steady g c = λ steady named.
    rw c.close.ensures (c.start.ensures.steady steady [] [] (gathers_none g.L.Link.dialogue _ c.requires (search rules) refl (search rules)) named)

use Rattle.std.proofs.Common.{◌++◌, ◌∷◌, [], ap, ◌∙◌, sym}
use Rattle.vx_terms.specs.Views.{term}
use Rattle.vx_segments.specs.Segments.{Entry}
use Rattle.vx_dialogue.specs.Symbols.{with_variables}
use Rattle.vx_dialogue.specs.declared.standing.Sent.{Sent}
use Rattle.vx_dialogue.proofs.Counted.{more_sound}
use Rattle.vx_dialogue.proofs.standing.Standing.say.Goals as goal

pub returns-clause-sound : goal.returns-clause-sound
returns-clause-sound c =
    let old = c.args.self.now in
    let s : Sent = record { entry = c.in_ok-copy.field-0; before = c.in_ok-before.before } in
    more_sound old _ s (c.in_ok-push-3.ensures.items ∙ ap (λ x. x.items ++ s ∷ []) c.put_missing.ensures.same)
    (c.in_ok-before.ensures.declared ∙ ap (with_variables old.declared) (ap term c.deref-2.ensures ∙ ap (λ (e : Entry). e.term) (sym c.in_ok-copy.ensures))) c.in_ok-before.ensures.before c.requires

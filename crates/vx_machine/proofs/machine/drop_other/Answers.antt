use Rattle.std.proofs.Common.{sym, ap, ◌∙◌, ◌++◌, ◌∷◌, [], append_assoc}
use Rattle.vx_machine.specs.Growth.{without_other}
use Rattle.vx_machine.proofs.Walks.{without_other-two}
use Rattle.vx_machine.proofs.machine.drop_other.Goals as goal

pub returns-in-Some-pop : goal.returns-in-Some-pop
returns-in-Some-pop c =
    let rest = c.pop-2.new.self.items in
    let other = c.in-Some-pop._other in
    let last = c.in-Some.last in
    c.in_ok-push.ensures.items
    ∙ sym (ap without_other (c.in-Some.ensures.items ∙ ap (λ l. l ++ last ∷ []) c.in-Some-pop.ensures.items ∙ append_assoc rest (other ∷ []) (last ∷ [])) ∙ without_other-two rest other last)

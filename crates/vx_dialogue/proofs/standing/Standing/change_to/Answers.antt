use Rattle.std.proofs.Common.{map, ap, ◌∙◌, sym}
use Rattle.vx_segments.specs.Views.{entry}
use Rattle.vx_dialogue.specs.Kept.{kept}
use Rattle.vx_dialogue.specs.Standing.{entries_of}
use Rattle.vx_dialogue.proofs.Counted.{stays_within}
use Rattle.vx_dialogue.proofs.standing.Standing.change_to.Goals as goal

pub go_on-requires-clause-within : goal.go_on-requires-clause-within
go_on-requires-clause-within c =
    stays_within c.args.self.now.sent.items c.args.path.now c.in-Some.count
    (ap (λ x. kept (entries_of x) (map entry c.args.path.now)) (sym c.deref.ensures.value) ∙ sym c.kept.ensures ∙ c.in-Some.is)

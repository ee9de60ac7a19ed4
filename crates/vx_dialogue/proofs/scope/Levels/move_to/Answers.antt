use Rattle.std.proofs.Common.{◌++◌, map, ap, ◌∙◌, sym}
use Rattle.vx_smt_meaning.specs.Views.{command}
use Rattle.vx_segments.specs.Views.{entry}
use Rattle.vx_dialogue.specs.Standing.{path_of}
use Rattle.vx_dialogue.proofs.Lists.{on_ok_map}
use Rattle.vx_dialogue.proofs.Bases.{further}
use Rattle.vx_dialogue.proofs.scope.Levels.move_to.Goals as goal

pub returns-in-Standing-clause-said : goal.returns-in-Standing-clause-said
returns-in-Standing-clause-said c =
    let old = path_of c.args.self.now.standing in
    let entries = map entry c.args.path.now in
    rw (c.in-Inside.is, c.in-Standing.is)
    (on_ok_map c.go_further.result _ _ (λ said. said ∙ ap (λ x. map command c.args.commands.now.items ++ x) (sym (further old entries))) c.go_further.ensures.said)

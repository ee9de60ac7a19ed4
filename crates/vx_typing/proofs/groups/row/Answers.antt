use Rattle.std.proofs.Common.{◌∙◌, ◌||◌, ap, sym}
use Rattle.std.proofs.lemmas.List.{drop_all}
use Rattle.vx_graph.specs.Listed.{is_in}
use Rattle.vx_typing.specs.Groups.{are_of}
use Rattle.vx_typing.specs.Seen.{seen}
use Rattle.vx_typing.proofs.Lists.{or_none}
use Rattle.vx_typing.proofs.groups.row.Goals as goal

pub returns : goal.returns
returns c = λ p t b.
    let before = is_in c.loop-u.row.items b in
    sym (c.loop-u.invariant p t b ∙ ap (λ us. before || are_of p b (seen us)) (drop_all _ c.args.uses.now c.loop-u-test.false) ∙ or_none before)

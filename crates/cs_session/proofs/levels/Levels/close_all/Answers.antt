use Rattle.std.proofs.Common.{drop, ap, arith, ◌∙◌}
use Rattle.std.proofs.lemmas.List.{drop-drop}
use Rattle.cs_session.specs.Views.{levels_of}
use Rattle.cs_session.proofs.levels.Levels.close_all.Goals as goal

pub close_one-requires : goal.close_one-requires
close_one-requires c =
    let h = c.loop-level.invariant.1 in
    let r = c.requires in
    omega arith

pub loop-level-preserved : goal.loop-level-preserved
loop-level-preserved c =
    let old = levels_of c.args.self.now in
    let h = c.loop-level.invariant.1 in
    let d = c.close_one.ensures.depth in
    (c.close_one.ensures.levels ∙ (ap (drop 1) c.loop-level.invariant.0 ∙ drop-drop 1 c.loop-level._level old), omega arith)

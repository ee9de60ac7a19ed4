use Rattle.std.proofs.Common.{refl, ◌∙◌}
use Rattle.cs_search.proofs.Mets.{met_none}
use Rattle.cs_search.proofs.analyse.begin.Goals as goal

pub returns-clause-met : goal.returns-clause-met
returns-clause-met c k = met_none c.args.made.now c.args.start k _ c.len.result (c.len.ensures ∙ c.args.made.now.values.ok.0) c.new.ensures.items (c.in_ok-marks.ensures.items_if_clones_equal (λ y e. e)) refl

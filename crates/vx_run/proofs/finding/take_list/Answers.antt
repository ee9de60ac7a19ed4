use Rattle.std.proofs.Common.{List, sym, ◌∙◌, ap}
use Rattle.vx_meaning.specs.Values.{Value}
use Rattle.vx_run.specs.ConfigViews.{config_of}
use Rattle.vx_run.proofs.finding.take_list.Goals as goal

pub returns-in-Some-clause-some : goal.returns-in-Some-clause-some
returns-in-Some-clause-some c = λ f. c.in-Some.ensures.some f ∙ ap (λ (vs : List Value). f vs (config_of c.pop_list.new.of)) (sym c.turned.ensures)

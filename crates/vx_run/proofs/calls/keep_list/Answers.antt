use Rattle.std.proofs.Common.{List, reverse, ◌∷◌, ◌∙◌, ap}
use Rattle.vx_meaning.specs.Values.{Value}
use Rattle.vx_run.specs.Configs.{with_lists}
use Rattle.vx_run.specs.ConfigViews.{config_of, newest}
use Rattle.vx_run.proofs.Newest.{newest_turned}
use Rattle.vx_run.proofs.calls.keep_list.Goals as goal

pub returns : goal.returns
returns c =
    let d = config_of c.args.of.now in
    c.in_ok-put_list.ensures ∙ ap (λ (vs : List Value). with_lists (vs ∷ d.lists) d) (ap newest c.reverse.ensures.items ∙ newest_turned c.args.vs.items)

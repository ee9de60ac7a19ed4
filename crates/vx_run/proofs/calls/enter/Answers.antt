use Rattle.std.proofs.Common.{List, map, Option, Some, None, sym, ◌∙◌, ap}
use Rattle.vx_ast.specs.Syntax.{Block}
use Rattle.vx_resolved.specs.Resolved.{block, method, names_of, optional_block}
use Rattle.vx_resolved.specs.declared.Block as block'
use Rattle.vx_run.specs.Configs.{around}
use Rattle.vx_run.specs.ConfigViews.{config_of, caller_of}
use Rattle.vx_run.specs.Frames.{Come, rest, before}
use Rattle.vx_run.specs.Holding.{holdings}
use Rattle.vx_run.specs.Supplies.{supply}
use Rattle.vx_run.specs.Tasks.{put, run_by}
use Rattle.vx_run.specs.Views.{value}
use Rattle.vx_run.specs.declared.values.Value.{Value as Value'}
use Rattle.vx_run.proofs.calls.enter.Goals as goal

pub returns-in_ok-by_contract-in-None : goal.returns-in_ok-by_contract-in-None
returns-in_ok-by_contract-in-None c = λ t.
    let m = method c.args.site.method.now in
    let by : Option Block → Come = λ o. before (λ e. put e (run_by t c.args.site.level (around e.callers) o c.args.site.place (caller_of c.args.caller).state (names_of c.args.site.targets.now) m
    (map value c.args.vs.items) (holdings c.args.left))) (rest t c.args.frames.now.items) (config_of c.args.of.now) (supply c.args.supply.now) in
    let given : List Value' → Come = λ us. before (λ e. put e (run_by t c.args.site.level (around e.callers) None c.args.site.place (caller_of c.args.caller).state (names_of c.args.site.targets.now) m
    (map value us) (holdings c.args.left))) (rest t c.args.frames.now.items) (config_of c.args.of.now) (supply c.args.supply.now) in
    c.in_ok-by_contract-in-None.ensures t ∙ ap given c.deref.ensures.value ∙ ap by (sym (ap optional_block c.in-None.is))

pub returns-in_ok-by_body-in-Some : goal.returns-in_ok-by_body-in-Some
returns-in_ok-by_body-in-Some c = λ t.
    let m = method c.args.site.method.now in
    let by : Option Block → Come = λ o. before (λ e. put e (run_by t c.args.site.level (around e.callers) o c.args.site.place (caller_of c.args.caller).state (names_of c.args.site.targets.now) m
    (map value c.args.vs.items) (holdings c.args.left))) (rest t c.args.frames.now.items) (config_of c.args.of.now) (supply c.args.supply.now) in
    c.in_ok-by_body-in-Some.ensures t ∙ ap (λ (b : block'.Block). by (Some (block b))) c.deref-in-Some.ensures ∙ ap by (sym (ap optional_block c.in-Some.is))

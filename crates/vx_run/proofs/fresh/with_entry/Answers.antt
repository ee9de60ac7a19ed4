use Rattle.std.proofs.Common.{Bool, [], ◌∷◌, sym, ◌∙◌, ap}
use Rattle.std.specs.Prelude.{if◌then◌else◌}
use Rattle.vx_frac.specs.Fractions.{is_positive}
use Rattle.vx_meaning.specs.States.{amount}
use Rattle.vx_run.specs.Configs.{around}
use Rattle.vx_run.specs.ConfigViews.{config_of}
use Rattle.vx_run.specs.Fresh.{largest, in_resource}
use Rattle.vx_run.specs.Given.{held_by_all}
use Rattle.vx_run.specs.Held.{resource}
use Rattle.vx_run.proofs.Largest.{alone}
use Rattle.vx_run.proofs.Totals.{positive_lowest}
use Rattle.vx_run.proofs.fresh.with_entry.Goals as goal

pub returns-then-is_above_none : goal.returns-then-is_above_none
returns-then-is_above_none c =
    let all = held_by_all (around (config_of c.args.of.now).callers) (config_of c.args.of.now).state in
    let r = resource c.args.r.now in
    let held = positive_lowest (amount all r) ∙ ap is_positive (sym c.in_ok-held.ensures) ∙ sym c.is_above_none.ensures ∙ c.if-is_above_none.true in
    c.with_resource.ensures ∙ ap (λ (b : Bool). largest (c.args.most ∷ (if b then in_resource r else []))) (sym held)

pub returns : goal.returns
returns c =
    let all = held_by_all (around (config_of c.args.of.now).callers) (config_of c.args.of.now).state in
    let r = resource c.args.r.now in
    let held = positive_lowest (amount all r) ∙ ap is_positive (sym c.in_ok-held.ensures) ∙ sym c.is_above_none.ensures ∙ c.if-is_above_none.false in
    alone c.args.most ∙ ap (λ (b : Bool). largest (c.args.most ∷ (if b then in_resource r else []))) (sym held)

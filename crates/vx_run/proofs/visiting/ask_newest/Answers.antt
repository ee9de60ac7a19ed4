use Rattle.std.proofs.Common.{ℕ, Bool, sym, ◌∙◌, ap}
use Rattle.vx_meaning.specs.Values.{Value, is_true}
use Rattle.vx_run.specs.Going.{Going, ◌>>=◌, gives}
use Rattle.vx_run.specs.Blame.{within}
use Rattle.vx_run.specs.Configs.{Config}
use Rattle.vx_run.specs.ConfigViews.{config_of}
use Rattle.vx_run.specs.Visits.{asked_of}
use Rattle.vx_run.proofs.Steps.{follows_as}
use Rattle.vx_run.proofs.visiting.ask_newest.Goals as goal

pub returns-in-Some : goal.returns-in-Some
returns-in-Some c = λ t l.
    let on : Value → Config → Going ℕ Config = λ v d. within c.args.b (asked_of c.args.m c.args.at (is_true v)) >>= λ u. gives d in
    follows_as _ _ _ _ (c.answered.ensures _ (c.asked.ensures ∙ ap (λ (y : Bool). asked_of c.args.m c.args.at y) c.is_true.ensures) (config_of c.take_one.new.of) l)
    (ap (λ (m : Going ℕ Config). m l) (sym (c.in-Some.ensures.some on)))

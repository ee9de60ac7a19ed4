use Rattle.std.proofs.Common.{ℕ, sym, ap}
use Rattle.vx_meaning.specs.Values.{Value}
use Rattle.vx_resolved.specs.Resolved.{expr}
use Rattle.vx_run.specs.Going.{Going, ◌>>=◌}
use Rattle.vx_run.specs.Configs.{Config, put_value}
use Rattle.vx_run.specs.ConfigViews.{config_of}
use Rattle.vx_run.specs.Frames.{rest}
use Rattle.vx_run.specs.Pending.{reading, state_at, side, evaluate}
use Rattle.vx_run.proofs.Steps.{follows_as}
use Rattle.vx_run.proofs.evaluating.choose_newest.Goals as goal

pub returns-in-Some : goal.returns-in-Some
returns-in-Some c = λ t l.
    let k = rest t c.args.frames.now.items in
    let on : Value → Config → Going ℕ Config = λ v d. put_value c.args.k.blame d (side c.args.at v
    (evaluate t c.args.k.level (reading c.args.r) (state_at c.args.when d.state) (expr c.args.x.now))
    (evaluate t c.args.k.level (reading c.args.r) (state_at c.args.when d.state) (expr c.args.y.now))) in
    follows_as _ _ _ _ (c.choose.ensures t (config_of c.take_one.new.of) l) (ap (λ (m : Going ℕ Config). (m >>= k) l) (sym (c.in-Some.ensures.some on)))

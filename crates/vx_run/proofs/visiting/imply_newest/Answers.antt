use Rattle.std.proofs.Common.{ℕ, sym, ap}
use Rattle.vx_meaning.specs.Values.{Value}
use Rattle.vx_resolved.specs.Resolved.{assertion}
use Rattle.vx_run.specs.Going.{Going, ◌>>=◌, gives, when}
use Rattle.vx_run.specs.Blame.{within}
use Rattle.vx_run.specs.Configs.{Config}
use Rattle.vx_run.specs.ConfigViews.{config_of}
use Rattle.vx_run.specs.Frames.{rest}
use Rattle.vx_run.specs.Visits.{side_of, visiting}
use Rattle.vx_run.proofs.Steps.{follows_as}
use Rattle.vx_run.proofs.visiting.imply_newest.Goals as goal

pub returns-in-Some : goal.returns-in-Some
returns-in-Some c = λ t l.
    let g = rest t c.args.frames.now.items in
    let k = c.args.k in
    let on : Value → Config → Going ℕ Config = λ v d. within k.blame (side_of c.args.m c.args.at v) >>= λ b. when b (visiting t k c.args.m (assertion c.args.a.now) d) (gives d) in
    follows_as _ _ _ _ (c.imply.ensures t _ c.side.ensures (config_of c.take_one.new.of) l) (ap (λ (m : Going ℕ Config). (m >>= g) l) (sym (c.in-Some.ensures.some on)))

use Rattle.std.proofs.Common.{ℕ, ◌∙◌, ap}
use Rattle.vx_resolved.specs.Resolved.{assertion}
use Rattle.vx_run.specs.Going.{Supply, continued}
use Rattle.vx_run.specs.ConfigViews.{config_of}
use Rattle.vx_run.specs.Frames.{rest, Come}
use Rattle.vx_run.proofs.visiting.visit_whole.Goals as goal

pub returns : goal.returns
returns c = λ t l.
    let g = rest t c.args.frames.now.items in
    ap (λ (n : Supply ℕ → Come). n l) (c.in_ok-begin.ensures t (config_of c.prepare.new.of) c.in_ok-prepare.ensures.ready)
    ∙ ap (λ (n : Come). continued n g) (c.in_ok-prepare.ensures.same t c.args.k (assertion c.args.a.now) l)

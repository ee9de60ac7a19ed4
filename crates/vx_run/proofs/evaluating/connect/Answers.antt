use Rattle.std.proofs.Common.{sym, subst}
use Rattle.vx_resolved.specs.Resolved.{expr, connective}
use Rattle.vx_run.specs.Evaluated.{connected}
use Rattle.vx_run.specs.Views.{value}
use Rattle.vx_run.specs.Configs.{put_value}
use Rattle.vx_run.specs.ConfigViews.{config_of}
use Rattle.vx_run.specs.Frames.{Follows, rest, before}
use Rattle.vx_run.specs.Pending.{reading, state_at, evaluate}
use Rattle.vx_run.specs.declared.values.Value.{Value as Value'}
use Rattle.vx_run.proofs.evaluating.connect.Goals as goal

pub returns-in-Bool : goal.returns-in-Bool
returns-in-Bool c = λ t l.
    let after = rest t c.connect_truth.new.frames.items (config_of c.connect_truth.new.of) l in
    subst (λ (v : Value').
    Follows c.connect_truth.result after
    (before (λ d. put_value c.args.k.blame d (connected c.args.at (connective c.args.c) (value v) (evaluate t c.args.k.level (reading c.args.r) (state_at c.args.when d.state) (expr c.args.e.now))))
    (rest t c.args.frames.now.items) (config_of c.args.of.now) l))
    (sym c.in-Bool.is) (c.connect_truth.ensures t c.args.at l)

use Rattle.std.proofs.Common.{ℕ, sym, ◌∙◌, ap}
use Rattle.vx_resolved.specs.Resolved.{expr, block}
use Rattle.vx_run.specs.Going.{Going, ◌>>=◌}
use Rattle.vx_run.specs.Configs.{Config}
use Rattle.vx_run.specs.Frames.{rest}
use Rattle.vx_run.specs.Tasks.{one_round}
use Rattle.vx_run.proofs.blocks.step_round.Goals as goal

pub returns-in_ok-put_round-in-Some : goal.returns-in_ok-put_round-in-Some
returns-in_ok-put_round-in-Some c = λ t l.
    let k = rest t c.args.frames.now.items in
    c.in_ok-put_round-in-Some.ensures t l ∙ ap (λ (m : Going ℕ Config). (m >>= k) l) (sym (c.in-Some.ensures.some (one_round t c.args.level c.args.rounds (expr c.args.e.now) (block c.args.b.now))))

use Rattle.std.proofs.Common.{ℕ, sym, ◌∙◌, ap}
use Rattle.vx_resolved.specs.Resolved.{block}
use Rattle.vx_run.specs.Going.{Going, ◌>>=◌}
use Rattle.vx_run.specs.Configs.{Config}
use Rattle.vx_run.specs.Frames.{rest}
use Rattle.vx_run.specs.Tasks.{branch}
use Rattle.vx_run.proofs.blocks.step_branch.Goals as goal

pub returns-in_ok-put_branch-in-Some : goal.returns-in_ok-put_branch-in-Some
returns-in_ok-put_branch-in-Some c = λ t l.
    let k = rest t c.args.frames.now.items in
    c.in_ok-put_branch-in-Some.ensures t l ∙ ap (λ (m : Going ℕ Config). (m >>= k) l) (sym (c.in-Some.ensures.some (branch t c.args.level (block c.args.x.now) (block c.args.y.now))))

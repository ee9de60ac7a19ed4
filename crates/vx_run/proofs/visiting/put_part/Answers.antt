use Rattle.std.proofs.Common.{◌∙◌, ap}
use Rattle.vx_resolved.specs.Resolved.{expr}
use Rattle.vx_run.specs.Evaluated.{Reading}
use Rattle.vx_run.specs.Configs.{put_value}
use Rattle.vx_run.specs.Frames.{act, rest, before}
use Rattle.vx_run.specs.Pending.{evaluate}
use Rattle.vx_run.specs.declared.frame.Frame.TheVariants as frame
use Rattle.vx_run.proofs.visiting.put_part.Goals as goal

pub returns : goal.returns
returns c = λ t.
    c.in_ok-put_off_two.ensures t
    ∙ ap (λ (r : Reading). before (λ d. put_value c.args.k.blame d (evaluate t c.args.k.level r d.state (expr c.args.e.now))) (before (act t (frame.Visit c.args.then)) (rest t c.args.frames.now.items)))
    c.reading.ensures

use Rattle.std.proofs.Common.{ℕ, sym, ◌∙◌, ap}
use Rattle.vx_run.specs.Held.{entries}
use Rattle.vx_run.specs.Going.{Going}
use Rattle.vx_run.specs.Configs.{Config, with_taking}
use Rattle.vx_run.specs.ConfigViews.{config_of}
use Rattle.vx_run.proofs.visiting.hold_taking.Goals as goal

pub returns-in_ok-put_taking-in-Some-clause-there : goal.returns-in_ok-put_taking-in-Some-clause-there
returns-in_ok-put_taking-in-Some-clause-there c =
    (entries c.in-Some.h.entries.value, (config_of c.take_taking.new.of).takings, ap (λ (x : Config). x.takings) c.in_ok-put_taking-in-Some.ensures)

pub returns-in_ok-put_taking-in-Some-clause-same : goal.returns-in_ok-put_taking-in-Some-clause-same
returns-in_ok-put_taking-in-Some-clause-same c = λ f l.
    ap (λ (x : Config). with_taking x f l) c.in_ok-put_taking-in-Some.ensures ∙ sym (ap (λ (n : Going ℕ Config). n l) (c.in-Some.ensures.some f))

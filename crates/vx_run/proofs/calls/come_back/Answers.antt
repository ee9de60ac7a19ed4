use Rattle.std.proofs.Common.{◌∙◌, ap}
use Rattle.vx_meaning.specs.States.{State, Store, with_store}
use Rattle.vx_run.specs.Configs.{in_state}
use Rattle.vx_run.specs.ConfigViews.{config_of, caller_of}
use Rattle.vx_run.specs.Frames.{rest, before}
use Rattle.vx_run.specs.Tasks.{resuming}
use Rattle.vx_run.proofs.calls.come_back.Goals as goal

pub returns-clause-state : goal.returns-clause-state
returns-clause-state c = c.enter-before.ensures.after ∙ ap (λ (s : State). in_state s (config_of c.args.of.now)) c.in_ok-inner.ensures

pub returns-clause-frames : goal.returns-clause-frames
returns-clause-frames c = λ t.
    c.in_ok-put_off.ensures t ∙ ap (λ (x : Store). before (resuming (with_store x (caller_of c.args.caller).state)) (rest t c.args.frames.now.items)) c.assign_all.ensures

use Rattle.std.proofs.Common.{List, map, ◌∙◌, ap}
use Rattle.vx_frac.specs.Fraction.{fraction}
use Rattle.vx_meaning.specs.States.{State, bind, with_store, with_holdings}
use Rattle.vx_resolved.specs.Resolved.{assertion, declaration, expr}
use Rattle.vx_resolved.specs.declared.Declaration.{Declaration}
use Rattle.vx_run.specs.Held.{instance}
use Rattle.vx_run.specs.Holding.{holdings}
use Rattle.vx_run.specs.ConfigViews.{config_of}
use Rattle.vx_run.specs.Frames.{rest, before}
use Rattle.vx_run.specs.Pending.{state_at, body_opened}
use Rattle.vx_run.proofs.unfolding.enter_left.Goals as goal

pub returns : goal.returns
returns c = λ t l.
    c.in_ok-enter_body.ensures t l
    ∙ ap (λ (s : State). before (λ d. body_opened t c.args.inner c.args.k (fraction c.args.q) (assertion c.args.body.now) (expr c.args.e.now) s d) (rest t c.args.frames.now.items) (config_of c.args.of.now) l)
    (c.in_ok-state.ensures
    ∙ ap (λ (ds : List Declaration). with_store (bind (map declaration ds) (instance c.args.i.now).arguments) (with_holdings (holdings c.args.left) (state_at c.args.when (config_of c.args.of.now).state)))
    c.deref.ensures.value)

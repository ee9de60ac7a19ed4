use Rattle.std.proofs.Common.{ℕ, Bool, List, Result, Err, map, reverse, sym, ◌∙◌, ap}
use Rattle.vx_resolved.specs.Settled.{settled}
use Rattle.vx_run.specs.Going.{Outcome, Supply, ◌>>=◌, gives, require, Stopped}
use Rattle.vx_run.specs.Given as given
use Rattle.vx_run.specs.Configs.{Config, around, put_state}
use Rattle.vx_run.specs.ConfigViews.{config_of, caller_of}
use Rattle.vx_run.specs.declared.state.Caller.{Caller}
use Rattle.vx_run.proofs.giving.stop_unless_possible.Goals as goal

pub returns-then-possible : goal.returns-then-possible
returns-then-possible c = λ l.
    let d = config_of c.args.of.now in
    let p = settled c.args.program.now in
    ap (λ (y : Bool). put_state c.args.b d (require y (Stopped c.args.at) >>= λ u. gives d.state) l)
    (sym c.if-possible.true ∙ c.in_ok-possible.ensures ∙ ap (λ (cs : List Caller). given.is_possible p c.args.steps (around (reverse (map caller_of cs))) d.state) c.deref.ensures.value)

pub returns : goal.returns
returns c = λ l.
    let d = config_of c.args.of.now in
    let p = settled c.args.program.now in
    ap (λ (o : Outcome). let r : Result (Config × Supply ℕ) Outcome = Err o in r) c.counted.ensures
    ∙ ap (λ (y : Bool). put_state c.args.b d (require y (Stopped c.args.at) >>= λ u. gives d.state) l)
    (sym c.if-possible.false ∙ c.in_ok-possible.ensures ∙ ap (λ (cs : List Caller). given.is_possible p c.args.steps (around (reverse (map caller_of cs))) d.state) c.deref.ensures.value)

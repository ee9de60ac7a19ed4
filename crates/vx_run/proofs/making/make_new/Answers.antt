use Rattle.std.proofs.Common.{ℕ, Result, ◌∙◌, ap}
use Rattle.std.specs.Prelude.{string_bytes}
use Rattle.vx_meaning.specs.Values.{RefValue}
use Rattle.vx_meaning.specs.States.{State, Store, assign, with_store}
use Rattle.vx_resolved.specs.Resolved.{names_of}
use Rattle.vx_resolved.specs.Settled.{settled}
use Rattle.vx_run.specs.Going.{Outcome, Supply, continued, gives}
use Rattle.vx_run.specs.Configs.{Config, in_state}
use Rattle.vx_run.specs.ConfigViews.{config_of}
use Rattle.vx_run.specs.Supplies.{supply}
use Rattle.vx_run.specs.Tasks.{new_fields}
use Rattle.vx_run.proofs.making.make_new.Goals as goal

pub returns : goal.returns
returns c =
    let d = config_of c.args.of.now in
    let p = settled c.args.program.now in
    let x = string_bytes c.args.x.now.value in
    let l = supply c.args.supply.now in
    let fs = names_of c.args.fields.now in
    let onto : ℕ → State → Result (Config × Supply ℕ) Outcome = λ r s. continued (new_fields p r fs s l) (λ u. gives (in_state u d)) in
    ap (λ (r : Result (State × Supply ℕ) Outcome). continued r (λ u. gives (in_state u d))) c.in_ok-draw_fields.ensures
    ∙ ap (λ (s : Store). onto c.in_ok-r.r (with_store s d.state)) c.assign.ensures
    ∙ ap (λ (r : ℕ). onto r (with_store (assign x (RefValue r) d.state.store) d.state)) c.in_ok-r.ensures

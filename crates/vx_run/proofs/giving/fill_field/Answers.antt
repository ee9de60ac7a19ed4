use Rattle.std.proofs.Common.{ℕ, Result, Ok, ◌∷◌, ◌∙◌, ap}
use Rattle.vx_frac.specs.Fraction.{fraction}
use Rattle.vx_meaning.specs.States.{Heap}
use Rattle.vx_meaning.specs.Flatten.{bare}
use Rattle.vx_resolved.specs.Settled.{settled}
use Rattle.vx_run.specs.Blame.{ended_within}
use Rattle.vx_run.specs.Draws.{by_draws}
use Rattle.vx_run.specs.Given.{Filling, fill_location}
use Rattle.vx_run.specs.Going.{Outcome, Supply, continued, gives}
use Rattle.vx_run.specs.Configs.{Config, in_state, with_takings}
use Rattle.vx_run.specs.ConfigViews.{config_of}
use Rattle.vx_run.specs.Fillings.{filling}
use Rattle.vx_run.specs.Frames.{Come}
use Rattle.vx_run.specs.Held as held
use Rattle.vx_run.specs.Holding.{holdings}
use Rattle.vx_run.specs.Supplies.{supply}
use Rattle.vx_run.specs.Widths.{within_128_bits}
use Rattle.vx_run.proofs.giving.fill_field.Goals as goal

pub returns-in-Ok : goal.returns-in-Ok
returns-in-Ok c =
    let p = settled c.args.program.now in
    let l = held.location c.args.l.now in
    let q = fraction c.args.b in
    let s = supply c.args.from.now in
    let j = supply c.fill_location.new.from in
    let old = config_of c.args.of.now in
    let w = filling c.in-Ok.w in
    let to = λ (u : Filling). (let x : Config = with_takings (u.totals ∷ old.takings) (in_state (bare old.state.store u.heap) old) in x) in
    let put = c.in_ok-put_taking-in-Ok.ensures
    ∙ ap (λ (x : Config). with_takings (w.totals ∷ x.takings) x) (c.in_ok-make_bare-in-Ok.ensures ∙ ap (λ (x : Config). in_state (bare x.state.store x.state.heap) x) c.put_heap.ensures) in
    let at_first = ap (λ (h : Heap). fill_location p by_draws within_128_bits c.args.at l q (record { heap = h; totals = holdings c.args.totals }) s) (ap held.heap c.in_ok-heap.ensures.cases) in
    ap (λ (x : Config). let r : Come = Ok (x, j) in r) put
    ∙ ap (λ (x : Result (Filling × Supply ℕ) Outcome). continued (ended_within c.args.k.blame x) (λ u. gives (to u))) (c.in-Ok.ensures ∙ at_first)

use Rattle.std.proofs.Common.{ℕ, map, ◌∙◌, ap}
use Rattle.vx_frac.specs.Fraction.{fraction}
use Rattle.vx_meaning.specs.States.{Store, bind, with_store, with_holdings}
use Rattle.vx_resolved.specs.Resolved.{assertion, declaration}
use Rattle.vx_run.specs.Going.{Going}
use Rattle.vx_run.specs.Configs.{Config, in_state}
use Rattle.vx_run.specs.ConfigViews.{config_of}
use Rattle.vx_run.specs.Frames.{rest, before}
use Rattle.vx_run.specs.Holding.{holdings}
use Rattle.vx_run.specs.Tasks.{giving_again, body_given}
use Rattle.vx_run.specs.Views.{value}
use Rattle.vx_run.proofs.StatementForms.{of_parts}
use Rattle.vx_run.proofs.CallForms.{failing, with_variables, given_in_body}
use Rattle.vx_run.proofs.folding.give_body.Goals as goal

pub returns : goal.returns
returns c = λ t l.
    let k = rest t c.args.frames.now.items in
    let d = config_of c.args.of.now in
    let n = c.args.level in
    let at = c.args.at in
    let q = fraction c.args.q in
    let e = assertion c.args.body.now in
    let h = holdings c.args.left in
    let x = bind (map declaration c.args.parameters.now) (map value c.args.vs.now) in
    let first : Config → Going ℕ Config = giving_again t (failing n at) q e in
    ap (λ (f : Config → Going ℕ Config). f (config_of c.enter_store.new.of) l)
    (c.in_ok-give_again_first.ensures t
    ∙ ap (λ (f : Config → Going ℕ Config). before first f)
    (c.in_ok-put_off.ensures t ∙ ap (λ (y : Store). before (with_variables t n y) k) (c.in_ok-outer.ensures.before ∙ ap (λ (z : Config). z.state.store) c.put_holdings.ensures)))
    ∙ ap (λ (z : Config). before first (before (with_variables t n d.state.store) k) z l)
    (c.in_ok-outer.ensures.after ∙ ap (λ (z : Config). in_state (with_store x z.state) z) c.put_holdings.ensures)
    ∙ of_parts first (with_variables t n d.state.store) k (in_state (with_store x (with_holdings h d.state)) d) l (body_given t n at q x e h d) (given_in_body t n at q x e h d)

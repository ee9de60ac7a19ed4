use Rattle.std.proofs.Common.{ℕ, Bool, map, sym, ◌∙◌, ap, List}
use Rattle.vx_frac.specs.Fraction.{fraction}
use Rattle.vx_meaning.specs.States.{Folded, bind}
use Rattle.vx_resolved.specs.Resolved.{assertion, declaration}
use Rattle.vx_run.specs.Going.{Going, ◌>>=◌, require, Failed}
use Rattle.vx_run.specs.Configs.{Config}
use Rattle.vx_run.specs.ConfigViews.{config_of}
use Rattle.vx_run.specs.Frames.{rest}
use Rattle.vx_run.specs.Held.{instance}
use Rattle.vx_run.specs.Tasks.{unfold_held}
use Rattle.vx_run.proofs.Steps.{follows_as}
use Rattle.vx_meaning.specs.Values.{Value}
use Rattle.vx_run.specs.Views.{value}
use Rattle.vx_run.specs.declared.values.Value.{Value as Value'}
use Rattle.vx_run.proofs.Steps.{follows_as}
use Rattle.vx_run.proofs.folding.unfold_body.Goals as goal

pub returns : goal.returns
returns c = λ t l.
    let d = config_of c.args.of.now in
    let k = rest t c.args.frames.now.items in
    let i = instance c.args.i in
    let x = bind (map declaration c.args.parameters.now) i.arguments in
    let on : Going ℕ Config = unfold_held t c.args.level c.args.at (fraction c.args.q) x (assertion c.args.body.now) (Folded i) d in
    ap (λ (b : Bool). ((require b (Failed c.args.at) >>= λ _. on) >>= k) l) (sym c.if-has.false ∙ c.in_ok-has.ensures)

pub returns-then-has : goal.returns-then-has
returns-then-has c = λ t l.
    let d = config_of c.args.of.now in
    let k = rest t c.args.frames.now.items in
    let i = instance c.args.i in
    let ds = map declaration c.args.parameters.now in
    let on : List Value → Going ℕ Config = λ vs. unfold_held t c.args.level c.args.at (fraction c.args.q) (bind ds vs) (assertion c.args.body.now) (Folded i) d in
    follows_as _ _ _ _ (c.unfold_held.ensures t l)
    (ap (λ (vs : List Value'). (on (map value vs) >>= k) l) (c.deref-then-has.ensures.value ∙ ap (λ v. v.items) (c.deref.ensures ∙ c.in_ok-vs.ensures.cases))
    ∙ ap (λ (b : Bool). ((require b (Failed c.args.at) >>= λ _. on i.arguments) >>= k) l) (sym c.if-has.true ∙ c.in_ok-has.ensures))

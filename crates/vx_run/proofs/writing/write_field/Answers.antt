use Rattle.std.proofs.Common.{ℕ, Bool, ◌∷◌, sym, ◌∙◌, ap, ap₂}
use Rattle.std.specs.Prelude.{string_bytes}
use Rattle.vx_ast.specs.Syntax.{Name}
use Rattle.vx_frac.specs.Fraction.{fraction}
use Rattle.vx_frac.specs.Fractions.{Fraction, at_most, lowest}
use Rattle.vx_frac.proofs.Reduced.{lowest_fraction}
use Rattle.vx_meaning.specs.States.{Heap, Location, At, amount, with_heap}
use Rattle.vx_run.specs.Going.{Going, ◌>>=◌, gives, require, Failed}
use Rattle.vx_run.specs.Configs.{Config, in_state}
use Rattle.vx_run.specs.ConfigViews.{config_of}
use Rattle.vx_run.specs.Tasks.{put}
use Rattle.vx_run.specs.Views.{value}
use Rattle.vx_run.proofs.Totals.{at_most_lowest}
use Rattle.vx_run.proofs.writing.write_field.Goals as goal

pub returns-then-is_at_most : goal.returns-then-is_at_most
returns-then-is_at_most c = λ l.
    let d = config_of c.args.of.now in
    let at : Name → Location = λ f. record { receiver = c.args.receiver; field = f } in
    let here = at (string_bytes c.args.field.now.value) in
    let total = amount d.state.holdings (At here) in
    let same_field = ap string_bytes c.in_ok-clone.ensures.cases in
    let same_place = c.in_ok-copy.ensures ∙ ap at same_field in
    let held = ap (λ (f : Fraction). at_most f total) (sym c.whole.ensures) ∙ at_most_lowest (fraction c.whole.result) total
    ∙ ap₂ at_most (lowest_fraction c.whole.result) (sym (c.amount.ensures ∙ ap (λ (x : Location). lowest (amount d.state.holdings (At x))) same_place)) in
    let written : Heap → Config = λ h. in_state (with_heap h d.state) d in
    ap (λ (e : Config). let g : Going ℕ Config = gives e in g l)
    (c.put_heap.ensures ∙ ap written (c.in_ok-heap.ensures ∙ ap (λ (f : Name). (at f, value c.args.v) ∷ d.state.heap) same_field))
    ∙ ap (λ (b : Bool). put d (require b (Failed c.args.at) >>= λ _. gives (with_heap ((here, value c.args.v) ∷ d.state.heap) d.state)) l)
    (sym c.if-is_at_most.true ∙ c.is_at_most.ensures ∙ sym held)

pub returns : goal.returns
returns c = λ l.
    let d = config_of c.args.of.now in
    let at : Name → Location = λ f. record { receiver = c.args.receiver; field = f } in
    let here = at (string_bytes c.args.field.now.value) in
    let total = amount d.state.holdings (At here) in
    let same_place = c.in_ok-copy.ensures ∙ ap at (ap string_bytes c.in_ok-clone.ensures.cases) in
    let held = ap (λ (f : Fraction). at_most f total) (sym c.whole.ensures) ∙ at_most_lowest (fraction c.whole.result) total
    ∙ ap₂ at_most (lowest_fraction c.whole.result) (sym (c.amount.ensures ∙ ap (λ (x : Location). lowest (amount d.state.holdings (At x))) same_place)) in
    ap (λ (b : Bool). put d (require b (Failed c.args.at) >>= λ _. gives (with_heap ((here, value c.args.v) ∷ d.state.heap) d.state)) l)
    (sym c.if-is_at_most.false ∙ c.is_at_most.ensures ∙ sym held)

use Rattle.std.proofs.Common.{◌≡◌, ℕ, List, [], sym, ◌∙◌, ap, ap₂}
use Rattle.std.specs.declared.alloc.Global.{Global}
use Rattle.std.specs.declared.rc.Rc.{Rc}
use Rattle.vx_ast.specs.Syntax.{joined}
use Rattle.vx_frac.specs.Fraction.{fraction}
use Rattle.vx_frac.specs.Fractions.{Fraction, full}
use Rattle.vx_resolved.specs.Resolved.{method, block, assertions}
use Rattle.vx_resolved.specs.declared.Assertion as asserted
use Rattle.vx_run.specs.Draws.{by_draws}
use Rattle.vx_run.specs.Going.{Going, ◌>>=◌, gives}
use Rattle.vx_run.specs.Widths.{within_128_bits}
use Rattle.vx_run.specs.Evaluated.{take}
use Rattle.vx_run.specs.Given.{give}
use Rattle.vx_run.specs.Configs.{Config, around, in_state, with_taking, put_state, put_taking}
use Rattle.vx_run.specs.Pending.{deeper_by}
use Rattle.vx_run.specs.Tasks.{bodies_by, body}
use Rattle.vx_run.specs.Changes as changes
use Rattle.vx_run.specs.Frames.{rest, before}
use Rattle.vx_run.specs.declared.frame.Frame.{Frame}
use Rattle.vx_run.specs.declared.blame.Blame.TheVariants.{Itself}
use Rattle.vx_run.specs.declared.change.Change.TheVariants.{FromNow, StartTaking, DropTaking}
use Rattle.vx_run.proofs.Parts.{itself}
use Rattle.vx_run.proofs.run.put_method.Goals as goal

pub returns : goal.returns
returns c = λ t.
    let n = c.args.level in
    let m = method c.args.m.now in
    let giving : List (Rc asserted.Assertion Global) → Fraction → Config → Going ℕ Config =
    λ as' q d. put_state Itself d (give t.program by_draws within_128_bits (deeper_by t n) t.steps (around d.callers) n q (joined m.place (assertions as')) d.state) in
    let running : Config → Going ℕ Config = λ d. put_state Itself d (bodies_by t n (around d.callers) (block c.args.body.now) d.state) in
    let begun : Config → Going ℕ Config = body t n (block c.args.body.now) in
    let same : begun ≡ running = λ i d. sym (itself (bodies_by t n (around d.callers) (block c.args.body.now) d.state)) i >>= λ s. gives (in_state s d) in
    let taking : List (Rc asserted.Assertion Global) → Fraction → Config → Going ℕ Config =
    λ as' q d. with_taking d (λ h e. put_taking Itself e (take t.program within_128_bits (deeper_by t n) e.state q (joined m.place (assertions as')) h)) in
    let before' = c.deref.result.now in
    let behind = c.deref-2.result.now in
    let q = fraction c.whole-whole.result in
    let step = λ (f : Config → Going ℕ Config) (g : Config → Going ℕ Config). before f g in
    c.in_ok-put_off-6.ensures t
    ∙ ap (step (giving before' q))
    (c.in_ok-put_off-5.ensures t
    ∙ ap (step (changes.act FromNow))
    (c.in_ok-put_off-4.ensures t
    ∙ ap (step begun)
    (c.in_ok-put_off-3.ensures t
    ∙ ap (step (changes.act StartTaking))
    (c.in_ok-put_off-2.ensures t
    ∙ ap (step (taking behind q))
    (c.in_ok-put_off.ensures t ∙ ap (λ (fs : List Frame). before (changes.act DropTaking) (rest t fs)) c.new-frames.ensures.items)))))
    ∙ ap₂ (λ (xs ys : List (Rc asserted.Assertion Global)).
    before (giving xs q) (before (changes.act FromNow) (before begun (before (changes.act StartTaking) (before (taking ys q) (before (changes.act DropTaking) (rest t []))))))) c.deref.ensures.value c.deref-2.ensures.value
    ∙ ap (λ (r : Fraction). before (giving c.args.m.now.preconditions.items r) (before (changes.act FromNow) (before begun (before (changes.act StartTaking)
    (before (taking c.args.m.now.postconditions.items r) (before (changes.act DropTaking) (rest t []))))))) c.whole-whole.ensures
    ∙ ap (λ (f : Config → Going ℕ Config). before (giving c.args.m.now.preconditions.items full) (before (changes.act FromNow) (before f (before (changes.act StartTaking)
    (before (taking c.args.m.now.postconditions.items full) (before (changes.act DropTaking) (rest t []))))))) same

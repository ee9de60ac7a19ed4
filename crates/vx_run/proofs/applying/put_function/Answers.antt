use Rattle.std.proofs.Common.{ℕ, List, sym, ◌∙◌, ap}
use Rattle.std.specs.declared.alloc.Global.{Global}
use Rattle.std.specs.declared.rc.Rc.{Rc}
use Rattle.vx_ast.specs.Syntax.{joined}
use Rattle.vx_frac.specs.Fraction.{fraction}
use Rattle.vx_frac.specs.Fractions.{Fraction, full}
use Rattle.vx_meaning.specs.States.{State, Holdings}
use Rattle.vx_resolved.specs.Resolved.{expr, function, assertions}
use Rattle.vx_resolved.specs.declared.Expr as code
use Rattle.vx_resolved.specs.declared.Assertion as asserted
use Rattle.vx_run.specs.Evaluated.{Free, take}
use Rattle.vx_run.specs.Going.{Going}
use Rattle.vx_run.specs.Widths.{within_128_bits}
use Rattle.vx_run.specs.Configs.{Config, with_taking, put_value, put_taking}
use Rattle.vx_run.specs.Changes as changes
use Rattle.vx_run.specs.Frames.{rest, before}
use Rattle.vx_run.specs.Pending.{reading, evaluate, applied, deeper_by}
use Rattle.vx_run.specs.declared.change.Change.TheVariants.{StartTaking, DropTaking}
use Rattle.vx_run.specs.declared.context.Reading.{Reading}
use Rattle.vx_run.proofs.Insides.{taken_first}
use Rattle.vx_run.proofs.applying.put_function.Goals as goal

pub returns-in_ok-put_off-in-Permitted-3 : goal.returns-in_ok-put_off-in-Permitted-3
returns-in_ok-put_off-in-Permitted-3 c = λ t.
    let k = rest t c.args.frames.now.items in
    let b = c.args.k.blame in
    let n = c.args.k.level in
    let g = function c.args.f.now in
    let body : code.Expr → Config → Going ℕ Config = λ e d. put_value b d (evaluate t n Free d.state (expr e)) in
    let take_by : List (Rc asserted.Assertion Global) → Fraction → State → Holdings → Going ℕ Holdings =
    λ as' q s. take t.program within_128_bits (deeper_by t n) s q (joined g.place (assertions as')) in
    let taking : List (Rc asserted.Assertion Global) → Fraction → Config → Going ℕ Config = λ as' q c. with_taking c (λ h d. put_taking b d (take_by as' q d.state h)) in
    let all = c.deref-in-Permitted.result.now in
    let start : (Config → Going ℕ Config) → Config → Going ℕ Config = λ f. before (changes.act StartTaking) f in
    let drop : (Config → Going ℕ Config) → Config → Going ℕ Config = λ f. before (changes.act DropTaking) f in
    c.in_ok-put_off-in-Permitted-3.ensures t
    ∙ ap start (c.in_ok-put_off-in-Permitted-2.ensures t)
    ∙ ap (λ (f : Config → Going ℕ Config). start (before (taking all (fraction c.whole.result)) f)) (c.in_ok-put_off-in-Permitted.ensures t)
    ∙ ap (λ (f : Config → Going ℕ Config). start (before (taking all (fraction c.whole.result)) (drop f))) (c.in_ok-put_off.ensures t)
    ∙ ap (λ (q : Fraction). start (before (taking all q) (drop (before (body c.deref.result.now) k)))) c.whole.ensures
    ∙ ap (λ (as' : List (Rc asserted.Assertion Global)). start (before (taking as' full) (drop (before (body c.deref.result.now) k)))) c.deref-in-Permitted.ensures.value
    ∙ ap (λ (e : code.Expr). start (before (taking c.args.f.now.preconditions.items full) (drop (before (body e) k)))) c.deref.ensures
    ∙ (λ i d. taken_first b d (take_by c.args.f.now.preconditions.items full) (λ s. evaluate t n Free s g.body) k i)
    ∙ ap (λ (r : Reading). before (λ d. put_value b d (applied t n (reading r) g d.state)) k) (sym c.in-Permitted.is)

pub returns-in-Free : goal.returns-in-Free
returns-in-Free c = λ t.
    let k = rest t c.args.frames.now.items in
    let b = c.args.k.blame in
    let n = c.args.k.level in
    let g = function c.args.f.now in
    let body : code.Expr → Config → Going ℕ Config = λ e d. put_value b d (evaluate t n Free d.state (expr e)) in
    c.in_ok-put_off.ensures t
    ∙ ap (λ (e : code.Expr). before (body e) k) c.deref.ensures
    ∙ ap (λ (r : Reading). before (λ d. put_value b d (applied t n (reading r) g d.state)) k) (sym c.in-Free.is)

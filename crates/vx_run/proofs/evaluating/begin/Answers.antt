use Rattle.std.proofs.Common.{◌≡◌, ℕ, List, refl, ◌∙◌, ap, ap₂}
use Rattle.std.specs.Prelude.{string_bytes}
use Rattle.vx_meaning.specs.Values.{Value, negated}
use Rattle.vx_meaning.specs.States.{State, at_old}
use Rattle.vx_resolved.specs.Resolved.{expr, exprs, operator, division, connective}
use Rattle.vx_resolved.specs.declared.Expr.{Expr}
use Rattle.vx_resolved.specs.declared.Exprs.{Exprs}
use Rattle.vx_run.specs.Going.{Going, ◌>>=◌, expect, when, Failed}
use Rattle.vx_run.specs.Widths.{within_128_bits, operate, divide}
use Rattle.vx_run.specs.Evaluated.{connected, decided}
use Rattle.vx_run.specs.Configs.{Config, put_value}
use Rattle.vx_run.specs.ConfigViews.{config_of}
use Rattle.vx_run.specs.Frames.{rest, before}
use Rattle.vx_run.specs.Pending.{act, reading, state_at, evaluate, evaluate_all, read_at, apply}
use Rattle.vx_run.specs.declared.context.When.{When}
use Rattle.vx_run.specs.declared.context.When.TheVariants as when'
use Rattle.vx_run.specs.declared.pending.Pending.TheVariants as pending
use Rattle.vx_ast.specs.Syntax.{Unfolding}
use Rattle.vx_meaning.specs.States.{Store, lookup}
use Rattle.vx_run.specs.Stores.{store}
use Rattle.vx_run.specs.declared.store.Variable.{Variable}
use Rattle.vx_run.proofs.Steps.{of_none}
use Rattle.vx_run.proofs.Forms.{at_form, given_same, value_of_one, value_of_two, value_of_list}
use Rattle.vx_run.proofs.evaluating.begin.Goals as goal

same_old : (w : When) (s : State) → at_old s ≡ at_old (state_at w s)
same_old when'.Now s = refl
same_old when'.Before s = refl

same_store : (w : When) (s : State) → s.store ≡ (state_at w s).store
same_store when'.Now s = refl
same_store when'.Before s = refl

pub returns-in_ok-literal-in-Number : goal.returns-in_ok-literal-in-Number
returns-in_ok-literal-in-Number c = λ t l.
    of_none _ _ _ _ _ _ _ (rest t c.args.frames.now.items) (c.come_to.ensures l)
    (given_same _ _ c.in_ok-literal-in-Number.ensures ∙ at_form t c.args.k.level (reading c.args.r) _ _ _ c.in-Number.is)

pub returns-in-Truth : goal.returns-in-Truth
returns-in-Truth c = λ t l.
    of_none _ _ _ _ _ _ _ (rest t c.args.frames.now.items) (c.come_to-in-Truth.ensures l) (at_form t c.args.k.level (reading c.args.r) _ _ _ c.in-Truth.is)

pub returns-in-Null : goal.returns-in-Null
returns-in-Null c = λ t l.
    of_none _ _ _ _ _ _ _ (rest t c.args.frames.now.items) (c.come_to-in-Null.ensures l) (at_form t c.args.k.level (reading c.args.r) _ _ _ c.in-Null.is)

pub returns-in_ok-part-in-Part : goal.returns-in_ok-part-in-Part
returns-in_ok-part-in-Part c = λ t l.
    of_none _ _ _ _ _ _ _ (rest t c.args.frames.now.items) (c.come_to-in-Part.ensures l)
    (given_same _ _ c.in_ok-part-in-Part.ensures ∙ at_form t c.args.k.level (reading c.args.r) _ _ _ c.in-Part.is)

pub returns-in_ok-put_part-in-Not : goal.returns-in_ok-put_part-in-Not
returns-in_ok-put_part-in-Not c = λ t l.
    let k = rest t c.args.frames.now.items in
    let d = config_of c.args.of.now in
    let b = c.args.k.blame in
    let value = λ (x : Expr). evaluate t c.args.k.level (reading c.args.r) (state_at c.args.when d.state) (expr x) in
    let f : Value → Going ℕ Value = λ v. expect (negated v) (Failed c.in-Not.at) in
    ap (λ (f : Config → Going ℕ Config). f d l) (c.in_ok-put_part-in-Not.ensures t)
    ∙ ap (λ (m : Going ℕ Config). m l)
    (value_of_one b d (value c.deref-in-Not.result.now) f (act t (pending.Negate b c.in-Not.at)) k (λ v. refl)
    ∙ ap (λ (x : Expr). put_value b d (value x >>= f) >>= k) c.deref-in-Not.ensures
    ∙ ap (λ (m : Going ℕ Value). put_value b d m >>= k) (at_form t c.args.k.level (reading c.args.r) _ _ _ c.in-Not.is))

pub returns-in_ok-put_part-in-Operate : goal.returns-in_ok-put_part-in-Operate
returns-in_ok-put_part-in-Operate c = λ t l.
    let k = rest t c.args.frames.now.items in
    let d = config_of c.args.of.now in
    let b = c.args.k.blame in
    let value = λ (x : Expr). evaluate t c.args.k.level (reading c.args.r) (state_at c.args.when d.state) (expr x) in
    let second = λ (s : State). evaluate t c.args.k.level (reading c.args.r) (state_at c.args.when s) (expr c.deref-in-Operate-2.result.now) in
    let first : Config → Going ℕ Config = λ e. put_value b e (evaluate t c.args.k.level (reading c.args.r) (state_at c.args.when e.state) (expr c.deref-in-Operate.result.now)) in
    let f : Value → Value → Going ℕ Value = operate within_128_bits c.in-Operate.at (operator c.in-Operate.op) in
    ap (λ (f : Config → Going ℕ Config). f d l)
    (c.in_ok-put_part-in-Operate.ensures t ∙ ap (λ (g : Config → Going ℕ Config). before first (before (λ e. put_value b e (second e.state)) g)) (c.in_ok-put_off-in-Operate.ensures t))
    ∙ ap (λ (m : Going ℕ Config). m l)
    (value_of_two b d (value c.deref-in-Operate.result.now) second f (act t (pending.Operate b c.in-Operate.at c.in-Operate.op)) k (λ v w. refl)
    ∙ ap₂ (λ (x y : Expr). put_value b d (value x >>= λ v. value y >>= f v) >>= k) c.deref-in-Operate.ensures c.deref-in-Operate-2.ensures
    ∙ ap (λ (m : Going ℕ Value). put_value b d m >>= k) (at_form t c.args.k.level (reading c.args.r) _ _ _ c.in-Operate.is))

pub returns-in_ok-put_part-in-Divide : goal.returns-in_ok-put_part-in-Divide
returns-in_ok-put_part-in-Divide c = λ t l.
    let k = rest t c.args.frames.now.items in
    let d = config_of c.args.of.now in
    let b = c.args.k.blame in
    let value = λ (x : Expr). evaluate t c.args.k.level (reading c.args.r) (state_at c.args.when d.state) (expr x) in
    let second = λ (s : State). evaluate t c.args.k.level (reading c.args.r) (state_at c.args.when s) (expr c.deref-in-Divide-2.result.now) in
    let first : Config → Going ℕ Config = λ e. put_value b e (evaluate t c.args.k.level (reading c.args.r) (state_at c.args.when e.state) (expr c.deref-in-Divide.result.now)) in
    let f : Value → Value → Going ℕ Value = divide within_128_bits c.in-Divide.at (division c.in-Divide.op) in
    ap (λ (f : Config → Going ℕ Config). f d l)
    (c.in_ok-put_part-in-Divide.ensures t ∙ ap (λ (g : Config → Going ℕ Config). before first (before (λ e. put_value b e (second e.state)) g)) (c.in_ok-put_off-in-Divide.ensures t))
    ∙ ap (λ (m : Going ℕ Config). m l)
    (value_of_two b d (value c.deref-in-Divide.result.now) second f (act t (pending.Divide b c.in-Divide.at c.in-Divide.op)) k (λ v w. refl)
    ∙ ap₂ (λ (x y : Expr). put_value b d (value x >>= λ v. value y >>= f v) >>= k) c.deref-in-Divide.ensures c.deref-in-Divide-2.ensures
    ∙ ap (λ (m : Going ℕ Value). put_value b d m >>= k) (at_form t c.args.k.level (reading c.args.r) _ _ _ c.in-Divide.is))

pub returns-in_ok-put_part-in-Connect : goal.returns-in_ok-put_part-in-Connect
returns-in_ok-put_part-in-Connect c = λ t l.
    let k = rest t c.args.frames.now.items in
    let d = config_of c.args.of.now in
    let b = c.args.k.blame in
    let value = λ (x : Expr). evaluate t c.args.k.level (reading c.args.r) (state_at c.args.when d.state) (expr x) in
    let op = connective c.in-Connect.op in
    let y = c.deref-in-Connect.result.now in
    let x = c.deref-in-Connect-2.result.now in
    ap (λ (f : Config → Going ℕ Config). f d l) (c.in_ok-put_part-in-Connect.ensures t)
    ∙ ap (λ (m : Going ℕ Config). m l)
    (value_of_one b d (value x) (λ v. connected c.in-Connect.at op v (value y))
    (act t (pending.Connect c.args.k c.args.r c.in-Connect.at c.in-Connect.op c.args.when c.deref-in-Connect.result)) k (λ v. refl)
    ∙ ap₂ (λ (x y : Expr). put_value b d (value x >>= λ v. connected c.in-Connect.at op v (value y)) >>= k) c.deref-in-Connect-2.ensures c.deref-in-Connect.ensures
    ∙ ap (λ (m : Going ℕ Value). put_value b d m >>= k) (at_form t c.args.k.level (reading c.args.r) _ _ _ c.in-Connect.is))

pub returns-in_ok-put_part-in-Choose : goal.returns-in_ok-put_part-in-Choose
returns-in_ok-put_part-in-Choose c = λ t l.
    let k = rest t c.args.frames.now.items in
    let d = config_of c.args.of.now in
    let b = c.args.k.blame in
    let at = c.in-Choose.at in
    let value = λ (x : Expr). evaluate t c.args.k.level (reading c.args.r) (state_at c.args.when d.state) (expr x) in
    let x = c.deref-in-Choose.result.now in
    let y = c.deref-in-Choose-2.result.now in
    ap (λ (f : Config → Going ℕ Config). f d l) (c.in_ok-put_part-in-Choose.ensures t)
    ∙ ap (λ (m : Going ℕ Config). m l)
    (value_of_one b d (value c.deref-in-Choose-3.result.now) (λ v. decided at v >>= λ q. when q (value x) (value y))
    (act t (pending.Choose c.args.k c.args.r at c.args.when c.deref-in-Choose.result c.deref-in-Choose-2.result)) k (λ v. refl)
    ∙ ap (λ (z : Expr). put_value b d (value z >>= λ v. decided at v >>= λ q. when q (value x) (value y)) >>= k) c.deref-in-Choose-3.ensures
    ∙ ap₂ (λ (x y : Expr). put_value b d (value c.in-Choose.c.value >>= λ v. decided at v >>= λ q. when q (value x) (value y)) >>= k) c.deref-in-Choose.ensures c.deref-in-Choose-2.ensures
    ∙ ap (λ (m : Going ℕ Value). put_value b d m >>= k) (at_form t c.args.k.level (reading c.args.r) _ _ _ c.in-Choose.is))

pub returns-in_ok-put_part-in-Read : goal.returns-in_ok-put_part-in-Read
returns-in_ok-put_part-in-Read c = λ t l.
    let k = rest t c.args.frames.now.items in
    let d = config_of c.args.of.now in
    let b = c.args.k.blame in
    let value = λ (x : Expr). evaluate t c.args.k.level (reading c.args.r) (state_at c.args.when d.state) (expr x) in
    let f = read_at t (reading c.args.r) (state_at c.args.when d.state) c.in-Read.at (string_bytes c.in-Read.x.value) in
    ap (λ (f : Config → Going ℕ Config). f d l) (c.in_ok-put_part-in-Read.ensures t)
    ∙ ap (λ (m : Going ℕ Config). m l)
    (value_of_one b d (value c.deref-in-Read.result.now) f _ k (λ v. refl)
    ∙ ap (λ (x : Expr). put_value b d (value x >>= f) >>= k) c.deref-in-Read.ensures
    ∙ ap (λ (m : Going ℕ Value). put_value b d m >>= k) (at_form t c.args.k.level (reading c.args.r) _ _ _ c.in-Read.is))

pub returns-in_ok-put_off-in-Old : goal.returns-in_ok-put_off-in-Old
returns-in_ok-put_off-in-Old c = λ t l.
    let k = rest t c.args.frames.now.items in
    let d = config_of c.args.of.now in
    let b = c.args.k.blame in
    ap (λ (f : Config → Going ℕ Config). f d l) (c.in_ok-put_off-in-Old.ensures t)
    ∙ ap (λ (m : Going ℕ Config). m l)
    (ap (λ (s : State). put_value b d (evaluate t c.args.k.level (reading c.args.r) s (expr c.deref-in-Old.result.now)) >>= k) (same_old c.args.when d.state)
    ∙ ap (λ (x : Expr). put_value b d (evaluate t c.args.k.level (reading c.args.r) (at_old (state_at c.args.when d.state)) (expr x)) >>= k) c.deref-in-Old.ensures
    ∙ ap (λ (m : Going ℕ Value). put_value b d m >>= k) (at_form t c.args.k.level (reading c.args.r) _ _ _ c.in-Old.is))

pub returns-in_ok-put_off_two-in-Apply : goal.returns-in_ok-put_off_two-in-Apply
returns-in_ok-put_off_two-in-Apply c = λ t l.
    let k = rest t c.args.frames.now.items in
    let d = config_of c.args.of.now in
    let b = c.args.k.blame in
    let values = λ (xs : Exprs). evaluate_all t c.args.k.level (reading c.args.r) (state_at c.args.when d.state) (exprs xs) in
    let f = apply t c.args.k.level (reading c.args.r) (state_at c.args.when d.state) c.in-Apply.at (string_bytes c.in-Apply.f.value) in
    ap (λ (f : Config → Going ℕ Config). f d l) (c.in_ok-put_off_two-in-Apply.ensures t)
    ∙ ap (λ (m : Going ℕ Config). m l)
    (value_of_list b d (values c.deref-in-Apply.result.now) f _ k (λ vs. refl)
    ∙ ap (λ (xs : Exprs). put_value b d (values xs >>= f) >>= k) c.deref-in-Apply.ensures
    ∙ ap (λ (m : Going ℕ Value). put_value b d m >>= k) (at_form t c.args.k.level (reading c.args.r) _ _ _ c.in-Apply.is))

pub returns-in-Variable : goal.returns-in-Variable
returns-in-Variable c = λ t l.
    let d = config_of c.args.of.now in
    let at = c.in-Variable.at in
    let x = string_bytes c.in-Variable.x.value in
    of_none _ _ _ _ _ _ _ (rest t c.args.frames.now.items) (c.come_to-in-Variable.ensures l)
    (c.variable-found.ensures
    ∙ ap (λ (xs : List Variable). let g : Going ℕ Value = expect (lookup x (store xs)) (Failed at) in g) c.deref.ensures.value
    ∙ ap (λ (s : Store). let g : Going ℕ Value = expect (lookup x s) (Failed at) in g) (same_store c.args.when d.state)
    ∙ at_form t c.args.k.level (reading c.args.r) _ _ _ c.in-Variable.is)

pub returns-in_ok-begin_unfolding-in-Unfolding : goal.returns-in_ok-begin_unfolding-in-Unfolding
returns-in_ok-begin_unfolding-in-Unfolding c = λ t l.
    let k = rest t c.args.frames.now.items in
    let d = config_of c.args.of.now in
    let b = c.args.k.blame in
    let i = string_bytes c.in-Unfolding.i.value in
    let form = λ (es : Exprs) (share x : Expr). put_value b d
    (evaluate t c.args.k.level (reading c.args.r) (state_at c.args.when d.state) (Unfolding c.in-Unfolding.at i (exprs es) (expr share) (expr x))) >>= k in
    ap (λ (f : Config → Going ℕ Config). f d l) (c.in_ok-begin_unfolding-in-Unfolding.ensures t)
    ∙ ap (λ (m : Going ℕ Config). m l)
    (ap (λ (es : Exprs). form es c.deref-in-Unfolding-2.result.now c.deref-in-Unfolding-3.result.now) c.deref-in-Unfolding.ensures
    ∙ ap₂ (λ (share x : Expr). form c.in-Unfolding.es.value share x) c.deref-in-Unfolding-2.ensures c.deref-in-Unfolding-3.ensures
    ∙ ap (λ (m : Going ℕ Value). put_value b d m >>= k) (at_form t c.args.k.level (reading c.args.r) _ _ _ c.in-Unfolding.is))

use Rattle.std.proofs.Common.{ℕ, List, refl, ◌∙◌, ap, ap₂}
use Rattle.std.specs.declared.alloc.Global.{Global}
use Rattle.std.specs.declared.rc.Rc.{Rc}
use Rattle.std.specs.declared.string.String.{String}
use Rattle.std.specs.declared.vec.Vec.{Vec}
use Rattle.vx_ast.specs.declared.Place.{Place}
use Rattle.std.specs.Prelude.{string_bytes}
use Rattle.vx_ast.specs.Syntax.{place_of}
use Rattle.vx_frac.specs.Fraction.{fraction}
use Rattle.vx_frac.specs.Fractions.{Fraction, full}
use Rattle.vx_resolved.specs.Resolved.{expr, exprs, assertion, assertions, block, names_of}
use Rattle.vx_resolved.specs.Settled.{settled}
use Rattle.vx_resolved.specs.declared.Expr.{Expr}
use Rattle.vx_resolved.specs.declared.Exprs.{Exprs}
use Rattle.vx_resolved.specs.declared.Block.{Block}
use Rattle.vx_resolved.specs.declared.Assertion.{Assertion}
use Rattle.vx_run.specs.Going.{Going, continued}
use Rattle.vx_run.specs.Changes as changes
use Rattle.vx_run.specs.Configs.{Setting, Config}
use Rattle.vx_run.specs.ConfigViews.{config_of}
use Rattle.vx_run.specs.Frames.{Come, rest, before}
use Rattle.vx_run.specs.Supplies.{supply}
use Rattle.vx_run.specs.Tasks as tasks
use Rattle.vx_run.specs.Tasks.{evaluated, assigned, assumed}
use Rattle.vx_run.specs.declared.change.Change.TheVariants.{KeepTaking, DropTaking}
use Rattle.vx_run.proofs.StatementForms.{plainly, new_is, begins, begins_one, begins_three, assign_is, assume_is, call_is, write_is, exhale_is, assert_is, inhale_is, fold_is, unfold_is, if_is, while_is}
use Rattle.vx_run.proofs.statement.begin_statement.Goals as goal

pub returns-in_ok-evaluate_first-in-Assign : goal.returns-in_ok-evaluate_first-in-Assign
returns-in_ok-evaluate_first-in-Assign c = λ steps.
    let t : Setting = record { program = settled c.args.program.now; steps = steps } in
    let k = rest t c.args.frames.now.items in
    let d = config_of c.args.of.now in
    let l = supply c.args.supply.now in
    let n = c.args.level in
    let g = assigned (string_bytes c.in-Assign.name.value) in
    ap (λ (f : Config → Going ℕ Config). f d l)
    (c.in_ok-evaluate_first-in-Assign.ensures t
    ∙ ap (λ (f : Config → Going ℕ Config). before (evaluated t n (expr c.deref-in-Assign.result.now)) f) (c.in_ok-put_off-in-Assign.ensures t)
    ∙ ap (λ (x : Expr). before (evaluated t n (expr x)) (before g k)) c.deref-in-Assign.ensures)
    ∙ begins t n _ _ k d l c.in-Assign.is (evaluated t n (expr c.in-Assign.e.value)) g (assign_is t n c.in-Assign.field-0 (string_bytes c.in-Assign.name.value) (expr c.in-Assign.e.value) d)

pub returns-in_ok-evaluate_first-in-Assume : goal.returns-in_ok-evaluate_first-in-Assume
returns-in_ok-evaluate_first-in-Assume c = λ steps.
    let t : Setting = record { program = settled c.args.program.now; steps = steps } in
    let k = rest t c.args.frames.now.items in
    let d = config_of c.args.of.now in
    let l = supply c.args.supply.now in
    let n = c.args.level in
    let g = assumed (place_of (expr c.in-Assume.e.value)) in
    ap (λ (f : Config → Going ℕ Config). f d l)
    (c.in_ok-evaluate_first-in-Assume.ensures t
    ∙ ap (λ (f : Config → Going ℕ Config). before (evaluated t n (expr c.deref-in-Assume-2.result.now)) f) (c.in_ok-put_off-in-Assume.ensures t
    ∙ ap (λ (at : Place). before (assumed at) k) (c.place_of.ensures ∙ ap (λ (x : Expr). place_of (expr x)) c.deref-in-Assume.ensures))
    ∙ ap (λ (x : Expr). before (evaluated t n (expr x)) (before g k)) c.deref-in-Assume-2.ensures)
    ∙ begins t n _ _ k d l c.in-Assume.is (evaluated t n (expr c.in-Assume.e.value)) g (assume_is t n c.in-Assume.field-0 (expr c.in-Assume.e.value) d)

pub returns-in_ok-evaluate_first-in-Fold : goal.returns-in_ok-evaluate_first-in-Fold
returns-in_ok-evaluate_first-in-Fold c = λ steps.
    let t : Setting = record { program = settled c.args.program.now; steps = steps } in
    let k = rest t c.args.frames.now.items in
    let d = config_of c.args.of.now in
    let l = supply c.args.supply.now in
    let n = c.args.level in
    let g = tasks.to_fold t n c.in-Fold.at (string_bytes c.in-Fold.i.value) (exprs c.in-Fold.es.value) in
    ap (λ (f : Config → Going ℕ Config). f d l)
    (c.in_ok-evaluate_first-in-Fold.ensures t
    ∙ ap (λ (f : Config → Going ℕ Config). before (evaluated t n (expr c.deref-in-Fold-2.result.now)) f) (c.in_ok-put_off-in-Fold.ensures t
    ∙ ap (λ (es : Exprs). before (tasks.to_fold t n c.in-Fold.at (string_bytes c.in-Fold.i.value) (exprs es)) k) c.deref-in-Fold.ensures)
    ∙ ap (λ (x : Expr). before (evaluated t n (expr x)) (before g k)) c.deref-in-Fold-2.ensures)
    ∙ begins t n _ _ k d l c.in-Fold.is (evaluated t n (expr c.in-Fold.share.value)) g (fold_is t n c.in-Fold.at (string_bytes c.in-Fold.i.value) (exprs c.in-Fold.es.value) (expr c.in-Fold.share.value) d)

pub returns-in_ok-evaluate_first-in-Unfold : goal.returns-in_ok-evaluate_first-in-Unfold
returns-in_ok-evaluate_first-in-Unfold c = λ steps.
    let t : Setting = record { program = settled c.args.program.now; steps = steps } in
    let k = rest t c.args.frames.now.items in
    let d = config_of c.args.of.now in
    let l = supply c.args.supply.now in
    let n = c.args.level in
    let g = tasks.to_unfold t n c.in-Unfold.at (string_bytes c.in-Unfold.i.value) (exprs c.in-Unfold.es.value) in
    ap (λ (f : Config → Going ℕ Config). f d l)
    (c.in_ok-evaluate_first-in-Unfold.ensures t
    ∙ ap (λ (f : Config → Going ℕ Config). before (evaluated t n (expr c.deref-in-Unfold-2.result.now)) f) (c.in_ok-put_off-in-Unfold.ensures t
    ∙ ap (λ (es : Exprs). before (tasks.to_unfold t n c.in-Unfold.at (string_bytes c.in-Unfold.i.value) (exprs es)) k) c.deref-in-Unfold.ensures)
    ∙ ap (λ (x : Expr). before (evaluated t n (expr x)) (before g k)) c.deref-in-Unfold-2.ensures)
    ∙ begins t n _ _ k d l c.in-Unfold.is (evaluated t n (expr c.in-Unfold.share.value)) g (unfold_is t n c.in-Unfold.at (string_bytes c.in-Unfold.i.value) (exprs c.in-Unfold.es.value) (expr c.in-Unfold.share.value) d)

pub returns-in_ok-evaluate_first-in-If : goal.returns-in_ok-evaluate_first-in-If
returns-in_ok-evaluate_first-in-If c = λ steps.
    let t : Setting = record { program = settled c.args.program.now; steps = steps } in
    let k = rest t c.args.frames.now.items in
    let d = config_of c.args.of.now in
    let l = supply c.args.supply.now in
    let n = c.args.level in
    let g = tasks.branched t n (block c.in-If.left.value) (block c.in-If.right.value) in
    ap (λ (f : Config → Going ℕ Config). f d l)
    (c.in_ok-evaluate_first-in-If.ensures t
    ∙ ap (λ (f : Config → Going ℕ Config). before (evaluated t n (expr c.deref-in-If-3.result.now)) f) (c.in_ok-put_off-in-If.ensures t
    ∙ ap₂ (λ (x y : Block). before (tasks.branched t n (block x) (block y)) k) c.deref-in-If.ensures c.deref-in-If-2.ensures)
    ∙ ap (λ (x : Expr). before (evaluated t n (expr x)) (before g k)) c.deref-in-If-3.ensures)
    ∙ begins t n _ _ k d l c.in-If.is (evaluated t n (expr c.in-If.e.value)) g (if_is t n c.in-If.field-0 (expr c.in-If.e.value) (block c.in-If.left.value) (block c.in-If.right.value) d c.requires)

pub returns-in_ok-declare_drawn-in-Declare : goal.returns-in_ok-declare_drawn-in-Declare
returns-in_ok-declare_drawn-in-Declare c = λ steps.
    let t : Setting = record { program = settled c.args.program.now; steps = steps } in
    let k = rest t c.args.frames.now.items in
    let d = config_of c.args.of.now in
    let l = supply c.args.supply.now in
    let n = c.args.level in
    ap (λ (m : Come). continued m k) c.in_ok-declare_drawn-in-Declare.ensures
    ∙ begins_one t n _ _ k d l c.in-Declare.is (tasks.declared (string_bytes c.in-Declare.name.value) c.in-Declare.t) refl

pub returns-in_ok-make_new-in-New : goal.returns-in_ok-make_new-in-New
returns-in_ok-make_new-in-New c = λ steps.
    let t : Setting = record { program = settled c.args.program.now; steps = steps } in
    let k = rest t c.args.frames.now.items in
    let d = config_of c.args.of.now in
    let l = supply c.args.supply.now in
    let n = c.args.level in
    ap (λ (m : Come). continued m k) (c.in_ok-make_new-in-New.ensures
    ∙ ap (λ (fs : List (Rc (String Global) Global)). tasks.made t.program (string_bytes c.in-New.name.value) (names_of fs) d l)
    (c.deref-in-New.ensures.value ∙ ap (λ (fs : Vec (Rc (String Global) Global) Global). fs.items) c.deref.ensures))
    ∙ begins_one t n _ _ k d l c.in-New.is (tasks.made t.program (string_bytes c.in-New.name.value) (names_of c.in-New.fields.value.items)) (new_is t n c.in-New.field-0 (string_bytes c.in-New.name.value) (names_of c.in-New.fields.value.items) d)

pub returns-in_ok-evaluate_first-in-Write-2 : goal.returns-in_ok-evaluate_first-in-Write-2
returns-in_ok-evaluate_first-in-Write-2 c = λ steps.
    let t : Setting = record { program = settled c.args.program.now; steps = steps } in
    let k = rest t c.args.frames.now.items in
    let d = config_of c.args.of.now in
    let l = supply c.args.supply.now in
    let n = c.args.level in
    let second = tasks.wrote c.in-Write.at (string_bytes c.in-Write.field.value) in
    ap (λ (f : Config → Going ℕ Config). f d l)
    (c.in_ok-evaluate_first-in-Write-2.ensures t
    ∙ ap (λ (f : Config → Going ℕ Config). before (evaluated t n (expr c.deref-in-Write-2.result.now)) f)
    (c.in_ok-evaluate_first-in-Write.ensures t ∙ ap (λ (f : Config → Going ℕ Config). before (evaluated t n (expr c.deref-in-Write.result.now)) f) (c.in_ok-put_off-in-Write.ensures t))
    ∙ ap₂ (λ (x y : Expr). before (evaluated t n (expr x)) (before (evaluated t n (expr y)) (before second k))) c.deref-in-Write-2.ensures c.deref-in-Write.ensures)
    ∙ begins_three t n _ _ k d l c.in-Write.is (evaluated t n (expr c.in-Write.e.value)) (evaluated t n (expr c.in-Write.value.value)) second
    (write_is t n c.in-Write.at (expr c.in-Write.e.value) (string_bytes c.in-Write.field.value) (expr c.in-Write.value.value) d)

pub returns-in_ok-evaluate_all_first-in-Call : goal.returns-in_ok-evaluate_all_first-in-Call
returns-in_ok-evaluate_all_first-in-Call c = λ steps.
    let t : Setting = record { program = settled c.args.program.now; steps = steps } in
    let k = rest t c.args.frames.now.items in
    let d = config_of c.args.of.now in
    let l = supply c.args.supply.now in
    let n = c.args.level in
    let second = tasks.calling t n c.in-Call.at (names_of c.in-Call.xs.value.items) (string_bytes c.in-Call.m.value) in
    ap (λ (f : Config → Going ℕ Config). f d l)
    (c.in_ok-evaluate_all_first-in-Call.ensures t
    ∙ ap (λ (es : Exprs). before (tasks.evaluated_all t n (exprs es)) (rest t c.put_off-in-Call.new.frames.items)) c.deref-in-Call-3.ensures
    ∙ ap (λ (f : Config → Going ℕ Config). before (tasks.evaluated_all t n (exprs c.in-Call.es.value)) f) (c.in_ok-put_off-in-Call.ensures t
    ∙ ap (λ (xs : List (Rc (String Global) Global)). before (tasks.calling t n c.in-Call.at (names_of xs) (string_bytes c.in-Call.m.value)) k)
    (c.deref-in-Call-2.ensures.value ∙ ap (λ (xs : Vec (Rc (String Global) Global) Global). xs.items) c.deref-in-Call.ensures)))
    ∙ begins t n _ _ k d l c.in-Call.is (tasks.evaluated_all t n (exprs c.in-Call.es.value)) second
    (call_is t n c.in-Call.at (names_of c.in-Call.xs.value.items) (string_bytes c.in-Call.m.value) (exprs c.in-Call.es.value) d)

pub returns-in_ok-give_first-in-Inhale : goal.returns-in_ok-give_first-in-Inhale
returns-in_ok-give_first-in-Inhale c = λ steps.
    let t : Setting = record { program = settled c.args.program.now; steps = steps } in
    let k = rest t c.args.frames.now.items in
    let d = config_of c.args.of.now in
    let l = supply c.args.supply.now in
    let n = c.args.level in
    ap (λ (f : Config → Going ℕ Config). f d l)
    (c.in_ok-give_first-in-Inhale.ensures t ∙ ap (λ (a : Assertion). before (tasks.giving t (plainly n) full (assertion a)) k) c.deref-in-Inhale.ensures)
    ∙ begins_one t n _ _ k d l c.in-Inhale.is (tasks.giving t (plainly n) full (assertion c.in-Inhale.a.value)) (inhale_is t n c.in-Inhale.field-0 (assertion c.in-Inhale.a.value) d)

pub returns-in_ok-take_first-in-Exhale : goal.returns-in_ok-take_first-in-Exhale
returns-in_ok-take_first-in-Exhale c = λ steps.
    let t : Setting = record { program = settled c.args.program.now; steps = steps } in
    let k = rest t c.args.frames.now.items in
    let d = config_of c.args.of.now in
    let l = supply c.args.supply.now in
    let n = c.args.level in
    let second : Config → Going ℕ Config = changes.act KeepTaking in
    ap (λ (f : Config → Going ℕ Config). f d l)
    (c.in_ok-take_first-in-Exhale.ensures t
    ∙ ap (λ (f : Config → Going ℕ Config). before (tasks.taking t (plainly n) (fraction c.whole.result) (assertion c.deref-in-Exhale.result.now)) f) (c.in_ok-put_off-in-Exhale.ensures t)
    ∙ ap₂ (λ (q : Fraction) (a : Assertion). before (tasks.taking t (plainly n) q (assertion a)) (before second k)) c.whole.ensures c.deref-in-Exhale.ensures)
    ∙ begins t n _ _ k d l c.in-Exhale.is (tasks.taking t (plainly n) full (assertion c.in-Exhale.a.value)) second (exhale_is t n c.in-Exhale.field-0 (assertion c.in-Exhale.a.value) d)

pub returns-in_ok-take_first-in-Assert : goal.returns-in_ok-take_first-in-Assert
returns-in_ok-take_first-in-Assert c = λ steps.
    let t : Setting = record { program = settled c.args.program.now; steps = steps } in
    let k = rest t c.args.frames.now.items in
    let d = config_of c.args.of.now in
    let l = supply c.args.supply.now in
    let n = c.args.level in
    let second : Config → Going ℕ Config = changes.act DropTaking in
    ap (λ (f : Config → Going ℕ Config). f d l)
    (c.in_ok-take_first-in-Assert.ensures t
    ∙ ap (λ (f : Config → Going ℕ Config). before (tasks.taking t (plainly n) (fraction c.whole-in-Assert.result) (assertion c.deref-in-Assert.result.now)) f) (c.in_ok-put_off-in-Assert.ensures t)
    ∙ ap₂ (λ (q : Fraction) (a : Assertion). before (tasks.taking t (plainly n) q (assertion a)) (before second k)) c.whole-in-Assert.ensures c.deref-in-Assert.ensures)
    ∙ begins t n _ _ k d l c.in-Assert.is (tasks.taking t (plainly n) full (assertion c.in-Assert.a.value)) second (assert_is t n c.in-Assert.field-0 (assertion c.in-Assert.a.value) d)

pub returns-in_ok-put_off-in-While : goal.returns-in_ok-put_off-in-While
returns-in_ok-put_off-in-While c = λ steps.
    let t : Setting = record { program = settled c.args.program.now; steps = steps } in
    let k = rest t c.args.frames.now.items in
    let d = config_of c.args.of.now in
    let l = supply c.args.supply.now in
    let n = c.args.level in
    ap (λ (f : Config → Going ℕ Config). f d l) (c.in_ok-put_off-in-While.ensures t
    ∙ ap₂ (λ (x : Expr) (y : Block). before (tasks.looped t n n (expr x) (block y)) k) c.deref-in-While.ensures c.deref-in-While-2.ensures)
    ∙ begins_one t n _ _ k d l c.in-While.is (tasks.looped t n n (expr c.in-While.e.value) (block c.in-While.b.value))
    (while_is t n c.in-While.field-0 (expr c.in-While.e.value) (assertions c.in-While.field-2.items) (block c.in-While.b.value) d c.requires)

use Rattle.std.proofs.Common.{◌≡◌, ℕ, sym, ◌∙◌, ap, ap₂}
use Rattle.std.specs.Prelude.{string_bytes}
use Rattle.vx_ast.specs.declared.Place.{Place}
use Rattle.vx_ast.specs.Syntax as syntax
use Rattle.vx_resolved.specs.Resolved.{expr, exprs, assertion}
use Rattle.vx_resolved.specs.declared.Expr.{Expr}
use Rattle.vx_resolved.specs.declared.Exprs.{Exprs}
use Rattle.vx_resolved.specs.declared.Assertion.{Assertion}
use Rattle.vx_run.specs.Going.{Going}
use Rattle.vx_run.specs.Evaluated.{Reading}
use Rattle.vx_run.specs.Configs.{Setting, Config, put_value, put_list}
use Rattle.vx_run.specs.Frames.{rest, before}
use Rattle.vx_run.specs.Pending.{evaluate, evaluate_all}
use Rattle.vx_run.specs.Visits.{visiting, value_in, list_in}
use Rattle.vx_run.specs.declared.context.Within.{Within}
use Rattle.vx_run.specs.declared.visit.Manner.{Manner}
use Rattle.vx_run.proofs.Carried.{ask, imply, choose, points, folded, puts_pure, puts_points, puts_instance, puts_both, puts_implied, puts_chosen}
use Rattle.vx_run.proofs.visiting.begin.Goals as goal

-- the assertion is this one
at_form : (t : Setting) (k : Within) (m : Manner) (x y : Assertion) → x ≡ y → (g : Config → Going ℕ Config) (d : Config) → before (visiting t k m (assertion y)) g d ≡ before (visiting t k m (assertion x)) g d
at_form t k m x y e g d = ap (λ (z : Assertion). before (visiting t k m (assertion z)) g d) (sym e)

pub returns-in_ok-put_part-in-Pure : goal.returns-in_ok-put_part-in-Pure
returns-in_ok-put_part-in-Pure c = λ t d h.
    let g = rest t c.args.frames.now.items in
    let k = c.args.k in
    let m = c.args.m in
    let e = c.deref-in-Pure.result.now in
    ap (λ (f : Config → Going ℕ Config). f d) (c.in_ok-put_part-in-Pure.ensures t)
    ∙ ap (λ (at : Place). before (value_in t k m (expr e)) (before (ask t k m at) g) d) c.place_of-at.ensures
    ∙ ap₂ (λ (x y : Expr). before (value_in t k m (expr x)) (before (ask t k m (syntax.place_of (expr y))) g) d) c.deref-in-Pure.ensures c.deref.ensures
    ∙ puts_pure t k m g d h (expr c.in-Pure.e.value)
    ∙ at_form t k m _ _ c.in-Pure.is g d

pub returns-in_ok-put_off-in-Points : goal.returns-in_ok-put_off-in-Points
returns-in_ok-put_off-in-Points c = λ t d h.
    let g = rest t c.args.frames.now.items in
    let k = c.args.k in
    let m = c.args.m in
    let at = c.in-Points.at in
    let f = string_bytes c.in-Points.f.value in
    let e = c.deref-in-Points-2.result.now in
    let share = c.deref-in-Points.result.now in
    ap (λ (f : Config → Going ℕ Config). f d) (c.in_ok-put_off-in-Points.ensures t)
    ∙ ap (λ (r : Reading). before (λ x. put_value k.blame x (evaluate t k.level r x.state (expr e))) (rest t c.put_part-in-Points.new.frames.items) d) c.reading.ensures
    ∙ ap (λ (n : Config → Going ℕ Config). before (value_in t k m (expr e)) n d) (c.in_ok-put_part-in-Points.ensures t)
    ∙ ap₂ (λ (x y : Expr). before (value_in t k m (expr x)) (before (value_in t k m (expr y)) (before (points t k m at f) g)) d) c.deref-in-Points-2.ensures c.deref-in-Points.ensures
    ∙ puts_points t k m g d h at (expr c.in-Points.e.value) f (expr c.in-Points.share.value)
    ∙ at_form t k m _ _ c.in-Points.is g d

pub returns-in_ok-put_off-in-Instance : goal.returns-in_ok-put_off-in-Instance
returns-in_ok-put_off-in-Instance c = λ t d h.
    let g = rest t c.args.frames.now.items in
    let k = c.args.k in
    let m = c.args.m in
    let at = c.in-Instance.at in
    let i = string_bytes c.in-Instance.i.value in
    let es = c.deref-in-Instance-2.result.now in
    let share = c.deref-in-Instance.result.now in
    ap (λ (f : Config → Going ℕ Config). f d) (c.in_ok-put_off-in-Instance.ensures t)
    ∙ ap (λ (r : Reading). before (λ x. put_list k.blame x (evaluate_all t k.level r x.state (exprs es))) (rest t c.put_part-in-Instance.new.frames.items) d) c.reading-in-Instance.ensures
    ∙ ap (λ (n : Config → Going ℕ Config). before (list_in t k m (exprs es)) n d) (c.in_ok-put_part-in-Instance.ensures t)
    ∙ ap₂ (λ (x : Exprs) (y : Expr). before (list_in t k m (exprs x)) (before (value_in t k m (expr y)) (before (folded t k m at i) g)) d) c.deref-in-Instance-2.ensures c.deref-in-Instance.ensures
    ∙ puts_instance t k m g d h at i (exprs c.in-Instance.es.value) (expr c.in-Instance.share.value)
    ∙ at_form t k m _ _ c.in-Instance.is g d

pub returns-in_ok-put_off_two-in-Both : goal.returns-in_ok-put_off_two-in-Both
returns-in_ok-put_off_two-in-Both c = λ t d h.
    let g = rest t c.args.frames.now.items in
    let k = c.args.k in
    let m = c.args.m in
    ap (λ (f : Config → Going ℕ Config). f d) (c.in_ok-put_off_two-in-Both.ensures t)
    ∙ ap₂ (λ (x y : Assertion). before (visiting t k m (assertion x)) (before (visiting t k m (assertion y)) g) d) c.deref-in-Both.ensures c.deref-in-Both-2.ensures
    ∙ puts_both t k m g d h (assertion c.in-Both.a.value) (assertion c.in-Both.b.value)
    ∙ at_form t k m _ _ c.in-Both.is g d

pub returns-in_ok-put_part-in-Implied : goal.returns-in_ok-put_part-in-Implied
returns-in_ok-put_part-in-Implied c = λ t d h.
    let g = rest t c.args.frames.now.items in
    let k = c.args.k in
    let m = c.args.m in
    let e = c.in-Implied.c.value in
    ap (λ (f : Config → Going ℕ Config). f d) (c.in_ok-put_part-in-Implied.ensures t)
    ∙ ap (λ (x : Expr). before (value_in t k m (expr x)) (before (imply t k m c.place_of-at-in-Implied.result (assertion c.deref-in-Implied-3.result.now)) g) d) c.deref-in-Implied-2.ensures
    ∙ ap (λ (at : Place). before (value_in t k m (expr e)) (before (imply t k m at (assertion c.deref-in-Implied-3.result.now)) g) d) (c.place_of-at-in-Implied.ensures ∙ ap (λ (y : Expr). syntax.place_of (expr y)) c.deref-in-Implied.ensures)
    ∙ ap (λ (x : Assertion). before (value_in t k m (expr e)) (before (imply t k m (syntax.place_of (expr e)) (assertion x)) g) d) c.deref-in-Implied-3.ensures
    ∙ puts_implied t k m g d h (expr e) (assertion c.in-Implied.a.value)
    ∙ at_form t k m _ _ c.in-Implied.is g d

pub returns-in_ok-put_part-in-Chosen : goal.returns-in_ok-put_part-in-Chosen
returns-in_ok-put_part-in-Chosen c = λ t d h.
    let g = rest t c.args.frames.now.items in
    let k = c.args.k in
    let m = c.args.m in
    let e = c.in-Chosen.c.value in
    let a = c.deref-in-Chosen-3.result.now in
    let b = c.deref-in-Chosen-4.result.now in
    ap (λ (f : Config → Going ℕ Config). f d) (c.in_ok-put_part-in-Chosen.ensures t)
    ∙ ap (λ (x : Expr). before (value_in t k m (expr x)) (before (choose t k m c.place_of-at-in-Chosen.result (assertion a) (assertion b)) g) d) c.deref-in-Chosen-2.ensures
    ∙ ap (λ (at : Place). before (value_in t k m (expr e)) (before (choose t k m at (assertion a) (assertion b)) g) d) (c.place_of-at-in-Chosen.ensures ∙ ap (λ (y : Expr). syntax.place_of (expr y)) c.deref-in-Chosen.ensures)
    ∙ ap₂ (λ (x y : Assertion). before (value_in t k m (expr e)) (before (choose t k m (syntax.place_of (expr e)) (assertion x) (assertion y)) g) d) c.deref-in-Chosen-3.ensures c.deref-in-Chosen-4.ensures
    ∙ puts_chosen t k m g d h (expr e) (assertion c.in-Chosen.a.value) (assertion c.in-Chosen.b.value)
    ∙ at_form t k m _ _ c.in-Chosen.is g d

use Rattle.std.proofs.Common.{◌≡◌, Bool, true, false, List, [], ◌∷◌, ◌++◌, Option, Some, sym, ◌∙◌, ap, ap₂, subst}
use Rattle.std.specs.Prelude.{string_bytes}
use Rattle.vx_resolved.specs.Resolved.{expr, exprs, assertion}
use Rattle.vx_resolved.specs.Settled.{settled}
use Rattle.vx_run.specs.Flats.{PartOf, inside, and_behind}
use Rattle.vx_run.specs.Flattening.{StandsFor, AreLeft, Goes}
use Rattle.vx_run.specs.Held.{heap}
use Rattle.vx_run.specs.Stores.{store}
use Rattle.vx_run.specs.declared.flattening.Piece.{Piece}
use Rattle.vx_ast.specs.Syntax as syntax
use Rattle.vx_ast.specs.Syntax.{Assertion, Points, Both, Implied, Chosen}
use Rattle.vx_resolved.specs.declared.Assertion.{Assertion as Assertion'}
use Rattle.vx_resolved.specs.declared.Expr.{Expr}
use Rattle.vx_resolved.specs.declared.Exprs.{Exprs}
use Rattle.vx_run.specs.Flats.{has_truth}
use Rattle.vx_run.specs.declared.flattening.Piece.TheVariants as piece
use Rattle.vx_run.proofs.Pieces.{both_left, implied_left, first_left, second_left}
use Rattle.vx_run.proofs.flattening.find_part.Goals as goal

pub returns-in-Points : goal.returns-in-Points
returns-in-Points c = λ y z r w lz l.
    let p = settled c.args.program.now in
    let h = heap c.args.heap.now.value in
    let n = c.args.n in
    let form = λ (ts : List Piece) (b : Bool) (x : Assertion). Goes b (inside p h (PartOf n z y x)) (AreLeft p h ts (and_behind (inside p h (PartOf n z y x)) r)) in
    let at = c.in-Points.field-0 in
    subst (form c.find_points.new.left.items c.in_ok-there-in-Points.there)
    (ap₂ (λ (x s : Expr). Points at (expr x) (string_bytes c.in-Points.f.value) (expr s)) c.deref-in-Points.ensures c.deref-in-Points-2.ensures ∙ ap assertion (sym c.in-Points.is))
    (c.in_ok-there-in-Points.ensures at y z r w lz l)

pub returns-in-Instance : goal.returns-in-Instance
returns-in-Instance c = λ y z r w lz l.
    let p = settled c.args.program.now in
    let h = heap c.args.heap.now.value in
    let n = c.args.n in
    let form = λ (ts : List Piece) (b : Bool) (x : Assertion). Goes b (inside p h (PartOf n z y x)) (AreLeft p h ts (and_behind (inside p h (PartOf n z y x)) r)) in
    let at = c.in-Instance.field-0 in
    subst (form c.find_instance.new.left.items c.in_ok-there-in-Instance.there)
    (ap₂ (λ (es : Exprs) (s : Expr). syntax.Instance at (string_bytes c.in-Instance.i.value) (exprs es) (expr s)) c.deref-in-Instance.ensures c.deref-in-Instance-2.ensures ∙ ap assertion (sym c.in-Instance.is))
    (c.in_ok-there-in-Instance.ensures at y z r w lz l)

pub returns-in-Both : goal.returns-in-Both
returns-in-Both c = λ y z r w lz l.
    let p = settled c.args.program.now in
    let h = heap c.args.heap.now.value in
    let n = c.args.n in
    let form = λ (ts : List Piece) (b : Bool) (x : Assertion). Goes b (inside p h (PartOf n z y x)) (AreLeft p h ts (and_behind (inside p h (PartOf n z y x)) r)) in
    let a = assertion c.in-Both.a.value in
    let b = assertion c.in-Both.b.value in
    let ta = piece.Part n c.args.q c.in_ok-same-in-Both.same c.deref-in-Both-2.result in
    let tb = piece.Part n c.args.q c.args.x c.deref-in-Both.result in
    let sa : StandsFor p h ta (inside p h (PartOf n z y a)) = (z, y, lz, w ∙ ap (λ v. store v.items) (sym c.in_ok-same-in-Both.ensures.cases), ap (λ (x : Assertion'). inside p h (PartOf n z y (assertion x))) (sym c.deref-in-Both-2.ensures)) in
    let sb : StandsFor p h tb (inside p h (PartOf n z y b)) = (z, y, lz, w, ap (λ (x : Assertion'). inside p h (PartOf n z y (assertion x))) (sym c.deref-in-Both.ensures)) in
    let first = both_left p h n z y c.args.left.now.items r a b ta tb sa sb l in
    subst (form c.push-in-Both.new.self.items true) (ap assertion (sym c.in-Both.is))
    (subst (λ (ts : List Piece). AreLeft p h ts (and_behind (inside p h (PartOf n z y (Both a b))) r)) (sym (c.in_ok-push-in-Both-2.ensures.items ∙ ap (λ (ts : List Piece). ts ++ ta ∷ []) c.in_ok-push-in-Both.ensures.items)) first)

pub returns-in-Some-true : goal.returns-in-Some-true
returns-in-Some-true c = λ y z r w lz l.
    let p = settled c.args.program.now in
    let h = heap c.args.heap.now.value in
    let n = c.args.n in
    let form = λ (ts : List Piece) (b : Bool) (x : Assertion). Goes b (inside p h (PartOf n z y x)) (AreLeft p h ts (and_behind (inside p h (PartOf n z y x)) r)) in
    let e = expr c.in-Implied.c.value in
    let a = assertion c.in-Implied.a.value in
    let t = piece.Part n c.args.q c.args.x c.deref-in-Some-true.result in
    let s : StandsFor p h t (inside p h (PartOf n z y a)) = (z, y, lz, w, ap (λ (x : Assertion'). inside p h (PartOf n z y (assertion x))) (sym c.deref-in-Some-true.ensures)) in
    let stored = w ∙ ap store (sym (c.deref-in-Implied-2.ensures.value ∙ ap (λ v. v.items) c.deref-in-Implied.ensures)) in
    let truth : has_truth p y h e ≡ Some true =
    (ap (λ (x : Expr). has_truth p y h (expr x)) (sym c.deref-in-Implied-3.ensures) ∙ sym (c.in_ok-truth-in-Implied.ensures y stored) ∙ c.in-Some-true.is ∙ ap (λ (b : Bool). let o : Option Bool = Some b in o) c.in-Some-true.field-0-test) in
    subst (form c.push-in-Some-true.new.self.items true) (ap assertion (sym c.in-Implied.is))
    (subst (λ (ts : List Piece). AreLeft p h ts (and_behind (inside p h (PartOf n z y (Implied e a))) r)) (sym c.in_ok-push-in-Some-true.ensures.items)
    (implied_left p h n z y c.args.left.now.items r e a t truth s l))

pub returns-in-Some-true-truth : goal.returns-in-Some-true-truth
returns-in-Some-true-truth c = λ y z r w lz l.
    let p = settled c.args.program.now in
    let h = heap c.args.heap.now.value in
    let n = c.args.n in
    let form = λ (ts : List Piece) (b : Bool) (x : Assertion). Goes b (inside p h (PartOf n z y x)) (AreLeft p h ts (and_behind (inside p h (PartOf n z y x)) r)) in
    let e = expr c.in-Chosen.c.value in
    let a = assertion c.in-Chosen.a.value in
    let b = assertion c.in-Chosen.b.value in
    let t = piece.Part n c.args.q c.args.x c.deref-in-Some-true-truth.result in
    let s : StandsFor p h t (inside p h (PartOf n z y a)) = (z, y, lz, w, ap (λ (x : Assertion'). inside p h (PartOf n z y (assertion x))) (sym c.deref-in-Some-true-truth.ensures)) in
    let stored = w ∙ ap store (sym (c.deref-in-Chosen-2.ensures.value ∙ ap (λ v. v.items) c.deref-in-Chosen.ensures)) in
    let truth : has_truth p y h e ≡ Some true =
    (ap (λ (x : Expr). has_truth p y h (expr x)) (sym c.deref-in-Chosen-3.ensures) ∙ sym (c.in_ok-truth-in-Chosen.ensures y stored) ∙ c.in-Some-true-truth.is ∙ ap (λ (b : Bool). let o : Option Bool = Some b in o) c.in-Some-true-truth.field-0-test) in
    subst (form c.push-in-Some-true-truth.new.self.items true) (ap assertion (sym c.in-Chosen.is))
    (subst (λ (ts : List Piece). AreLeft p h ts (and_behind (inside p h (PartOf n z y (Chosen e a b))) r)) (sym c.in_ok-push-in-Some-true-truth.ensures.items)
    (first_left p h n z y c.args.left.now.items r e a b t truth s l))

pub returns-in-Some-false-truth : goal.returns-in-Some-false-truth
returns-in-Some-false-truth c = λ y z r w lz l.
    let p = settled c.args.program.now in
    let h = heap c.args.heap.now.value in
    let n = c.args.n in
    let form = λ (ts : List Piece) (b : Bool) (x : Assertion). Goes b (inside p h (PartOf n z y x)) (AreLeft p h ts (and_behind (inside p h (PartOf n z y x)) r)) in
    let e = expr c.in-Chosen.c.value in
    let a = assertion c.in-Chosen.a.value in
    let b = assertion c.in-Chosen.b.value in
    let t = piece.Part n c.args.q c.args.x c.deref-in-Some-false-truth.result in
    let s : StandsFor p h t (inside p h (PartOf n z y b)) = (z, y, lz, w, ap (λ (x : Assertion'). inside p h (PartOf n z y (assertion x))) (sym c.deref-in-Some-false-truth.ensures)) in
    let stored = w ∙ ap store (sym (c.deref-in-Chosen-2.ensures.value ∙ ap (λ v. v.items) c.deref-in-Chosen.ensures)) in
    let truth : has_truth p y h e ≡ Some false =
    (ap (λ (x : Expr). has_truth p y h (expr x)) (sym c.deref-in-Chosen-3.ensures) ∙ sym (c.in_ok-truth-in-Chosen.ensures y stored) ∙ c.in-Some-false-truth.is ∙ ap (λ (b : Bool). let o : Option Bool = Some b in o) c.in-Some-false-truth.field-0-test) in
    subst (form c.push-in-Some-false-truth.new.self.items true) (ap assertion (sym c.in-Chosen.is))
    (subst (λ (ts : List Piece). AreLeft p h ts (and_behind (inside p h (PartOf n z y (Chosen e a b))) r)) (sym c.in_ok-push-in-Some-false-truth.ensures.items)
    (second_left p h n z y c.args.left.now.items r e a b t truth s l))

use Rattle.std.proofs.Common.{List, map, option_map, sym, ◌∙◌, ap, subst}
use Rattle.std.specs.Prelude.{string_bytes}
use Rattle.vx_frac.specs.Fraction.{fraction}
use Rattle.vx_frac.specs.Fractions.{Fraction, lowest, product}
use Rattle.vx_meaning.specs.States.{Folded}
use Rattle.vx_resolved.specs.Resolved.{expr, exprs}
use Rattle.vx_resolved.specs.Settled.{settled}
use Rattle.vx_run.specs.Flats.{PartOf, inside, and_behind}
use Rattle.vx_run.specs.Flattening.{AreLeft}
use Rattle.vx_run.specs.Held.{heap}
use Rattle.vx_run.specs.Stores.{store}
use Rattle.vx_run.specs.Views.{value}
use Rattle.vx_run.specs.declared.flattening.Piece.{Piece}
use Rattle.vx_run.specs.declared.resource.Resource.TheVariants as resource'
use Rattle.vx_ast.specs.Syntax as syntax
use Rattle.vx_run.proofs.Pieces.{instance_left}
use Rattle.vx_run.proofs.flattening.find_instance.Goals as goal

pub returns-in_ok-push-in-Some-amount : goal.returns-in_ok-push-in-Some-amount
returns-in_ok-push-in-Some-amount c = λ at y z r w lz l.
    let p = settled c.args.program.now in
    let h = heap c.args.heap.now.value in
    let i = string_bytes c.args.i.now.value in
    let es = exprs c.args.es.now in
    let share = expr c.args.share.now in
    let a = fraction c.in-Some-amount.a in
    let first = w ∙ ap store (sym (c.deref-2.ensures.value ∙ ap (λ v. v.items) c.deref.ensures)) in
    let second = w ∙ ap store (sym (c.deref-in-Some-2.ensures.value ∙ ap (λ v. v.items) c.deref-in-Some.ensures)) in
    subst (λ (ts : List Piece). AreLeft p h ts (and_behind (inside p h (PartOf c.args.n z y (syntax.Instance at i es share))) r)) (sym c.in_ok-push-in-Some-amount.ensures.items)
    (instance_left p h c.args.n z y c.args.left.now.items r at i es share (map value c.in-Some.vs.items) a c.in_ok-product-in-Some-amount.product (resource'.Folded c.in_ok-held-in-Some-amount.held)
    (sym (c.in_ok-arguments.ensures y first) ∙ ap (option_map (λ vs. map value vs.items)) c.in-Some.is)
    (sym (c.in_ok-amount-in-Some.ensures y second) ∙ ap (option_map fraction) c.in-Some-amount.is)
    (c.in_ok-product-in-Some-amount.ensures ∙ ap (λ (q : Fraction). lowest (product q a)) (sym lz))
    (ap Folded c.in_ok-held-in-Some-amount.ensures) l)

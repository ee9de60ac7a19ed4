use Rattle.std.proofs.Common.{◌-◌, List, ◌++◌, map, sym, ◌∙◌, ap, ap₂, subst}
use Rattle.vx_meaning.specs.States.{Folded, bind}
use Rattle.vx_meaning.specs.Flatten.{within, flat}
use Rattle.vx_resolved.specs.Resolved.{assertion, declaration, predicate, optional_assertion}
use Rattle.vx_resolved.specs.Settled.{settled}
use Rattle.vx_run.specs.Flats.{PartOf, inside, and_behind}
use Rattle.vx_run.specs.Flattening.{AreLeft}
use Rattle.vx_run.specs.Held.{instance}
use Rattle.vx_run.specs.Stores.{store}
use Rattle.vx_run.specs.Views.{value}
use Rattle.vx_run.specs.declared.store.Variable.{Variable}
use Rattle.vx_run.specs.declared.flattening.Piece.{Piece}
use Rattle.vx_ast.specs.Syntax.{predicate_named}
use Rattle.vx_resolved.specs.declared.Assertion.{Assertion}
use Rattle.vx_resolved.specs.declared.Predicate.{Predicate}
use Rattle.vx_resolved.specs.declared.Declaration.{Declaration}
use Rattle.vx_run.specs.declared.values.Value.{Value}
use Rattle.vx_run.proofs.Pieces.{inner_body, same_predicate, same_arguments}
use Rattle.vx_run.proofs.Written.{bound}
use Rattle.vx_run.proofs.flattening.find_inner.Goals as goal

pub returns-in_ok-push-in-Some-body : goal.returns-in_ok-push-in-Some-body
returns-in_ok-push-in-Some-body c = λ h x z r w lz l.
    let p = settled c.args.program.now in
    let i = instance c.args.i.now in
    let d = predicate c.in-Some.d.now.value in
    let a = assertion c.in-Some-body.a.value in
    let y = bind d.parameters x.arguments in
    let named = ap (predicate_named p) (same_predicate x i w) ∙ sym c.in-Some.ensures in
    let bodied = ap (λ (b : Predicate). optional_assertion b.body) (sym c.deref.ensures) ∙ ap optional_assertion c.in-Some-body.is in
    let stored = bound d.parameters x.arguments ∙ ap (bind d.parameters) (same_arguments x i w)
    ∙ ap₂ (λ (ds : List Declaration) (vs : List Value). bind (map declaration ds) (map value vs))
    (sym (c.deref-in-Some-body-2.ensures.value ∙ ap (λ (b : Predicate). b.parameters.items) c.deref-in-Some-body.ensures))
    (sym (c.deref-in-Some-body-4.ensures.value ∙ ap (λ v. v.items) c.deref-in-Some-body-3.ensures))
    ∙ ap (λ (xs : List Variable). store xs ++ bind (map declaration c.deref-in-Some-body-2.result.now) (map value c.deref-in-Some-body-4.result.now)) (sym c.new-x.ensures.items)
    ∙ sym c.in_ok-bind-in-Some-body.ensures
    ∙ ap (λ v. store v.items) (sym c.in_ok-variables-in-Some-body.ensures.ok) in
    subst (λ (ts : List Piece). AreLeft p h ts (and_behind (within (flat p c.args.n h) (Folded x) z) r)) (sym c.in_ok-push-in-Some-body.ensures.items)
    (inner_body p h x z c.args.n d a c.if-n-eq0.false named bodied _
    (z, y, lz, stored, ap (λ (b : Assertion). inside p h (PartOf (c.args.n - 1) z y (assertion b))) (sym c.deref-in-Some-body-5.ensures)) c.args.left.now.items r l)

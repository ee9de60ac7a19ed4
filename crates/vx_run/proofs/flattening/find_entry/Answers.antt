use Rattle.std.proofs.Common.{Bool, [], ◌∷◌, ◌++◌, refl, sym, ◌∙◌, ap, subst}
use Rattle.vx_frac.specs.Fraction.{fraction}
use Rattle.vx_meaning.specs.States.{Resource, Folded}
use Rattle.vx_meaning.specs.Flatten.{within, flat}
use Rattle.vx_resolved.specs.Settled.{settled}
use Rattle.vx_run.specs.Flats.{and_behind, written_resource}
use Rattle.vx_run.specs.Flattening.{AreLeft, Goes, found}
use Rattle.vx_run.specs.Held.{instance, resource}
use Rattle.vx_run.specs.declared.resource.Resource.{Resource as Resource'}
use Rattle.vx_run.proofs.Pieces.{written_folded}
use Rattle.vx_run.proofs.flattening.find_entry.Goals as goal

pub returns-then-not-goes_on : goal.returns-then-not-goes_on
returns-then-not-goes_on c = λ h x z o w lz l.
    let p = settled c.args.program.now in
    let is = w ∙ ap resource c.in-Folded.is in
    let k = written_folded x (instance c.in-Folded.i) is in
    let inner = λ (y : Resource). within (flat p c.args.n h) y z in (
      ap inner k.1 ∙ subst (λ (b : Bool). Goes b (inner (Folded k.0)) (AreLeft p h c.find_inner.new.left.items (and_behind (inner (Folded k.0)) o))) c.if-not-goes_on.true
          (c.in_ok-goes_on-in-Folded.ensures h k.0 z o (ap written_resource (sym k.1) ∙ is) lz l),
      refl,
    )

pub returns-in_ok-put_found-in-Folded : goal.returns-in_ok-put_found-in-Folded
returns-in_ok-put_found-in-Folded c = λ h x z o w lz l.
    let p = settled c.args.program.now in
    let is = w ∙ ap resource c.in-Folded.is in
    let k = written_folded x (instance c.in-Folded.i) is in
    let inner = λ (y : Resource). within (flat p c.args.n h) y z in (
      c.in_ok-put_found-in-Folded.ensures ∙ ap (λ (r : Resource'). found c.args.all.now.items ++ (resource r, fraction c.args.q) ∷ []) (sym c.in-Folded.is),
      subst (λ (y : Resource). AreLeft p h c.find_inner.new.left.items (and_behind (inner y) o)) (sym k.1)
          (subst (λ (b : Bool). Goes b (inner (Folded k.0)) (AreLeft p h c.find_inner.new.left.items (and_behind (inner (Folded k.0)) o))) c.if-not-goes_on.false
          (c.in_ok-goes_on-in-Folded.ensures h k.0 z o (ap written_resource (sym k.1) ∙ is) lz l)),
    )

use Rattle.std.proofs.Common.{rules, map, sym, ap, subst}
use Rattle.vx_terms.specs.Views.{term}
use Rattle.cs_proof.specs.Fits.{seen}
use Rattle.cs_derivation.specs.View.{reached}
use Rattle.cs_opposites.specs.Made.{AreFinished}
use Rattle.cs_opposites.proofs.refute.steps_of.Goals as goal

pub returns-in_err-derivation : goal.returns-in_err-derivation
returns-in_err-derivation c = λ sorted o.
    let stack = seen c.args.stack.now in
    let e = c.in_err-derivation.ensures stack (ap (map (λ x. term x.value)) (sym c.deref.ensures.value)) sorted in
    search rules

pub returns-in_err-refute : goal.returns-in_err-refute
returns-in_err-refute c = λ sorted o.
    let stack = seen c.args.stack.now in
    let h = c.in_ok-derivation.ensures stack (ap (map (λ x. term x.value)) (sym c.deref.ensures.value)) sorted in
    let e = c.in_err-refute.ensures stack (ap (map (λ x. term x.value)) (sym c.deref-2.ensures.value)) h o in
    search rules

pub returns : goal.returns
returns c = λ sorted o.
    let stack = seen c.args.stack.now in
    let h = c.in_ok-derivation.ensures stack (ap (map (λ x. term x.value)) (sym c.deref.ensures.value)) sorted in
    let g = c.in_ok-refute.ensures stack (ap (map (λ x. term x.value)) (sym c.deref-2.ensures.value)) h o in
    let a = c.empty_clauses_finish.ensures stack (reached c.refute.new.derivation) g.stands g.empty in
    subst (AreFinished stack) (sym c.into_steps.ensures) a

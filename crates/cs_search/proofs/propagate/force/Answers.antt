use Rattle.std.proofs.Common.{◌≡◌, sym, ◌∙◌, ap}
use Rattle.cs_search.specs.declared.Status.TheVariants.{Unassigned, True, False}
use Rattle.cs_search.specs.Assignment.{status_of}
use Rattle.cs_search.proofs.Queues.{left_conflict, left_extended, left_true, true_placed}
use Rattle.cs_search.proofs.propagate.force.Goals as goal

pub returns-in-True-clause-truth : goal.returns-in-True-clause-truth
returns-in-True-clause-truth c t =
    let m = c.args.made.now in
    let is : status_of m.values.items c.args.literal ≡ True c.in-True.field-0 = ap (λ v. status_of v c.args.literal) (sym c.deref.ensures.value) ∙ sym c.status.ensures ∙ c.in-True.is in
    true_placed c.args.clauses.now m.values.items m.trail.items c.args.literal c.in-True.field-0 c.requires.sound is

pub returns-in-False-clause-conflict : goal.returns-in-False-clause-conflict
returns-in-False-clause-conflict c t =
    let m = c.args.made.now in
    let is : status_of m.values.items c.args.literal ≡ False c.in-False.field-0 = ap (λ v. status_of v c.args.literal) (sym c.deref.ensures.value) ∙ sym c.status.ensures ∙ c.in-False.is in
    left_conflict c.args.clauses.now m.values.items m.trail.items c.args.number c.in-False.field-0 c.args.literal c.requires.sound c.requires.left is

pub returns-in_ok-assign-in-Unassigned-clause-extended : goal.returns-in_ok-assign-in-Unassigned-clause-extended
returns-in_ok-assign-in-Unassigned-clause-extended c =
    let m = c.args.made.now in
    let is : status_of m.values.items c.args.literal ≡ Unassigned = ap (λ v. status_of v c.args.literal) (sym c.deref.ensures.value) ∙ sym c.status.ensures ∙ c.in-Unassigned.is in
    left_extended c.args.clauses.now m.values.items _ m.trail.items _ c.args.number c.args.literal c.requires.sound c.requires.known c.requires.left is c.in_ok-assign-in-Unassigned.ensures.values c.in_ok-assign-in-Unassigned.ensures.trail

pub returns-in_ok-assign-in-Unassigned-clause-truth : goal.returns-in_ok-assign-in-Unassigned-clause-truth
returns-in_ok-assign-in-Unassigned-clause-truth c t =
    let m = c.args.made.now in
    left_true c.args.clauses.now m.values.items _ m.trail.items _ c.args.number c.args.literal c.requires.known c.requires.left c.in_ok-assign-in-Unassigned.ensures.values c.in_ok-assign-in-Unassigned.ensures.trail

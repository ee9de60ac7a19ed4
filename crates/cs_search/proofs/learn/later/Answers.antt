use Rattle.std.proofs.Common.{◌≡◌, Some, sym, ◌∙◌, ap}
use Rattle.cs_search.specs.declared.Status.TheVariants.{False}
use Rattle.cs_search.specs.Assignment.{status_of}
use Rattle.cs_search.proofs.Tops.{top_later, top_stays, option_top}
use Rattle.cs_search.proofs.learn.later.Goals as goal

pub returns-then-top-place : goal.returns-then-top-place
returns-then-top-place c list top =
    let values = c.args.made.now.values.items in
    let is : status_of values c.args.literal ≡ False c.in-False.place = ap (λ v. status_of v c.args.literal) (sym c.deref.ensures.value) ∙ sym c.status.ensures ∙ c.in-False.is in
    top_later values list c.in-Some.top c.args.literal c.in-False.place is c.if-top-place.true (option_top values list c.args.best (Some c.in-Some.top) c.in-Some.is top)

pub returns-else-top-place : goal.returns-else-top-place
returns-else-top-place c list top =
    let values = c.args.made.now.values.items in
    let is : status_of values c.args.literal ≡ False c.in-False.place = ap (λ v. status_of v c.args.literal) (sym c.deref.ensures.value) ∙ sym c.status.ensures ∙ c.in-False.is in
    top_stays c.args.clauses.now values c.args.made.now.trail.items list c.in-Some.top c.args.literal c.in-False.place c.requires.sound is c.if-top-place.false (option_top values list c.args.best (Some c.in-Some.top) c.in-Some.is top)

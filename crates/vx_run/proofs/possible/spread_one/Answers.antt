use Rattle.std.proofs.Common.{Bool, sym, ◌∙◌, subst}
use Rattle.vx_frac.specs.Fraction.{fraction}
use Rattle.vx_frac.proofs.Reduced.{lowest_fraction}
use Rattle.vx_resolved.specs.Settled.{settled}
use Rattle.vx_run.specs.Flats.{EntryOf, inside}
use Rattle.vx_run.specs.Flattening.{AreFound, found}
use Rattle.vx_run.specs.Held.{heap, resource}
use Rattle.vx_run.proofs.Bounded.{one_there, one_alone}
use Rattle.vx_run.proofs.Written.{resource_written}
use Rattle.vx_run.proofs.possible.spread_one.Goals as goal

pub returns-then-there : goal.returns-then-there
returns-then-there c = λ rest.
    let p = settled c.args.program.now in
    let h = heap c.args.heap.now.value in
    let e = c.args.e.now in
    let x = resource e.resource in
    let z = fraction e.amount in
    let old = found c.args.all.now.items in
    let new = found c.find_all.new.all.items in
    one_there p c.args.steps h x z rest old new
    (subst (λ (b : Bool). AreFound b old new (inside p h (EntryOf c.args.steps z x))) c.if-there.true (c.in_ok-there.ensures x z (resource_written e.resource ∙ sym c.in_ok-r.ensures) (lowest_fraction e.amount)))

pub returns : goal.returns
returns c = λ rest.
    let p = settled c.args.program.now in
    let h = heap c.args.heap.now.value in
    let e = c.args.e.now in
    let x = resource e.resource in
    let z = fraction e.amount in
    let old = found c.args.all.now.items in
    let mid = found c.find_all.new.all.items in
    one_alone p c.args.steps h x z rest old mid (found c.put_found.new.all.items) (resource c.in_ok-same.same) z
    (subst (λ (b : Bool). AreFound b old mid (inside p h (EntryOf c.args.steps z x))) c.if-there.false (c.in_ok-there.ensures x z (resource_written e.resource ∙ sym c.in_ok-r.ensures) (lowest_fraction e.amount)))
    c.in_ok-put_found.ensures (c.in_ok-same.ensures ∙ sym (resource_written e.resource)) (sym (lowest_fraction e.amount))

use Rattle.std.proofs.Common.{◌+◌, length, ap, refl, arith}
use Rattle.std.proofs.lemmas.Option.{slice_get_within}
use Rattle.cs_search.specs.Rows.{row, slot}
use Rattle.cs_search.specs.declared.propagate.Seen.TheVariants.{Kept, Left}
use Rattle.cs_search.proofs.Queues.{seen_at, queued_rows, taken_listed, held_kept, held_taken_at}
use Rattle.cs_search.proofs.propagate.turn.Goals as goal

pub visit-requires-clause-within : goal.visit-requires-clause-within
visit-requires-clause-within c = c.requires.queued.listed.known (slot c.args.away) c.args.number (c.args.k, c.requires.stands)

pub take_out-requires : goal.take_out-requires
take_out-requires c =
    let q = c.args.queue.now in
    let lt = slice_get_within (row q.rows.items (slot c.args.away)) c.args.k c.args.number c.requires.stands in
    let e = ap (λ xs. length xs) (c.in_ok-seen.ensures.visit.row) in
    let s = ap (λ x. length (row c.visit.new.queue.rows.items x)) c.slot.ensures in
    omega (arith, lt, e, s)

pub returns-in-Kept-clause-held : goal.returns-in-Kept-clause-held
returns-in-Kept-clause-held c =
    let m = c.args.made.now in
    let n = c.visit.new.made in
    held_kept c.args.clauses.now m.values.items n.values.items m.trail.items n.trail.items c.args.queue.now c.visit.new.queue c.args.number c.args.k c.args.away c.requires.sound c.in_ok-seen.ensures.extended c.requires.falsified c.in_ok-seen.ensures.visit (seen_at c.args.clauses.now c.visit.new.queue.watches.items n.values.items (c.visit.new.queue.head + 1) (length n.trail.items) c.args.number c.args.away c.in_ok-seen.seen Kept c.in-Kept.is c.in_ok-seen.ensures.seen) c.requires.stands c.requires.held

pub returns-in-Left-clause-queued : goal.returns-in-Left-clause-queued
returns-in-Left-clause-queued c =
    let n = c.visit.new.made in
    let q = c.args.queue.now in
    let r = c.visit.new.queue in
    queued_rows c.args.clauses.now n.values.items n.trail.items r record { watches = r.watches; rows = c.take_out.new.rows; head = r.head } refl refl
    (taken_listed r.watches.items q.rows.items r.rows.items c.take_out.new.rows.items c.args.number c.args.k c.slot.result c.args.away c.in_ok-seen.ensures.visit.row c.requires.stands c.slot.ensures (seen_at c.args.clauses.now r.watches.items n.values.items (r.head + 1) (length n.trail.items) c.args.number c.args.away c.in_ok-seen.seen Left c.in-Left.is c.in_ok-seen.ensures.seen).1 c.take_out.ensures c.in_ok-seen.ensures.queued.listed)
    c.in_ok-seen.ensures.queued

pub returns-in-Left-clause-held : goal.returns-in-Left-clause-held
returns-in-Left-clause-held c =
    let m = c.args.made.now in
    let n = c.visit.new.made in
    let r = c.visit.new.queue in
    let k = held_kept c.args.clauses.now m.values.items n.values.items m.trail.items n.trail.items c.args.queue.now r c.args.number c.args.k c.args.away c.requires.sound c.in_ok-seen.ensures.extended c.requires.falsified c.in_ok-seen.ensures.visit (seen_at c.args.clauses.now r.watches.items n.values.items (r.head + 1) (length n.trail.items) c.args.number c.args.away c.in_ok-seen.seen Left c.in-Left.is c.in_ok-seen.ensures.seen).0 c.requires.stands c.requires.held in
    held_taken_at c.args.clauses.now r.watches.items n.values.items (r.head + 1) (length n.trail.items) c.args.k c.slot.result c.args.away r.rows.items c.take_out.new.rows.items c.slot.ensures c.take_out.ensures k

use Rattle.std.proofs.Common.{◌≡◌, length, sym, ◌∙◌, ap}
use Rattle.std.proofs.lemmas.Option.{slice_get_within}
use Rattle.cs_search.specs.declared.Status.TheVariants.{True}
use Rattle.cs_search.specs.declared.queue.Watch.{Watch}
use Rattle.cs_search.specs.Assignment.{status_of}
use Rattle.cs_search.proofs.Passes.{at_index}
use Rattle.cs_search.proofs.Queues.{true_placed, held_true, left_others, move_to, queued_moved, moved_visit, moved_seen, queued_extends}
use Rattle.cs_search.proofs.propagate.tend.Goals as goal

pub returns-then-is_true-clause-seen : goal.returns-then-is_true-clause-seen
returns-then-is_true-clause-seen c =
    let m = c.args.made.now in
    let w = c.is_true.ensures.yes c.if-is_true.true in
    let is : status_of m.values.items c.args.stays ≡ True w.0 = ap (λ v. status_of v c.args.stays) (sym c.deref.ensures.value) ∙ w.1 in
    held_true c.args.clauses.now m.values.items m.values.items m.trail.items c.args.queue.now c.args.number (length m.trail.items) c.args.away c.args.stays c.requires.queued c.requires.beside
    (true_placed c.args.clauses.now m.values.items m.trail.items c.args.stays w.0 c.requires.sound is)

pub watch_anew-requires : goal.watch_anew-requires
watch_anew-requires c = slice_get_within _ _ _ c.requires.beside.1

pub press-requires-clause-left : goal.press-requires-clause-left
press-requires-clause-left c =
    let m = c.args.made.now in
    let k = c.index-clauses-number.result in
    left_others c.args.clauses.now m.values.items _ m.trail.items c.args.number k _ c.args.queue.now c.args.away c.args.stays c.requires.sound (at_index c.args.clauses.now c.args.number k c.requires.within c.index-clauses-number.is)
    c.deref-2.ensures.value (c.deref-3.ensures.value ∙ ap (λ x. x.literals.items) (sym c.index-clauses-number.is)) c.requires.queued c.requires.beside c.in-None.ensures

pub returns-in_ok-watch_anew-in-Some-clause-queued : goal.returns-in_ok-watch_anew-in-Some-clause-queued
returns-in_ok-watch_anew-in-Some-clause-queued c =
    let m = c.args.made.now in
    let k = c.index-clauses-number.result in
    let v : Watch = record { first = c.args.stays; second = c.in-Some.next } in
    let ok = c.in_ok-watch_anew-in-Some.ensures in
    let x = move_to c.args.clauses.now m.values.items _ c.args.queue.now c.watch_anew.new.queue c.args.number k _ c.args.away c.args.stays c.in-Some.next (at_index c.args.clauses.now c.args.number k c.requires.within c.index-clauses-number.is)
    c.deref-2.ensures.value (c.deref-3.ensures.value ∙ ap (λ y. y.literals.items) (sym c.index-clauses-number.is)) c.requires.beside c.in-Some.ensures ok.watches ok.rows c.watch_anew.ensures.head in
    queued_moved c.args.clauses.now m.values.items m.trail.items c.args.queue.now c.watch_anew.new.queue c.args.number v c.args.away c.requires.sound c.requires.falsified c.requires.queued x

pub returns-in_ok-watch_anew-in-Some-clause-visit : goal.returns-in_ok-watch_anew-in-Some-clause-visit
returns-in_ok-watch_anew-in-Some-clause-visit c =
    let m = c.args.made.now in
    let k = c.index-clauses-number.result in
    let v : Watch = record { first = c.args.stays; second = c.in-Some.next } in
    let ok = c.in_ok-watch_anew-in-Some.ensures in
    let x = move_to c.args.clauses.now m.values.items _ c.args.queue.now c.watch_anew.new.queue c.args.number k _ c.args.away c.args.stays c.in-Some.next (at_index c.args.clauses.now c.args.number k c.requires.within c.index-clauses-number.is)
    c.deref-2.ensures.value (c.deref-3.ensures.value ∙ ap (λ y. y.literals.items) (sym c.index-clauses-number.is)) c.requires.beside c.in-Some.ensures ok.watches ok.rows c.watch_anew.ensures.head in
    moved_visit c.args.clauses.now m.values.items c.args.queue.now c.watch_anew.new.queue c.args.number c.args.queue.now.head v c.args.away c.requires.falsified x

pub returns-in_ok-watch_anew-in-Some-clause-seen : goal.returns-in_ok-watch_anew-in-Some-clause-seen
returns-in_ok-watch_anew-in-Some-clause-seen c =
    let m = c.args.made.now in
    let k = c.index-clauses-number.result in
    let v : Watch = record { first = c.args.stays; second = c.in-Some.next } in
    let ok = c.in_ok-watch_anew-in-Some.ensures in
    let x = move_to c.args.clauses.now m.values.items _ c.args.queue.now c.watch_anew.new.queue c.args.number k _ c.args.away c.args.stays c.in-Some.next (at_index c.args.clauses.now c.args.number k c.requires.within c.index-clauses-number.is)
    c.deref-2.ensures.value (c.deref-3.ensures.value ∙ ap (λ y. y.literals.items) (sym c.index-clauses-number.is)) c.requires.beside c.in-Some.ensures ok.watches ok.rows c.watch_anew.ensures.head in
    moved_seen c.args.clauses.now m.values.items m.trail.items c.args.queue.now c.watch_anew.new.queue c.args.number v c.args.away c.requires.sound c.requires.falsified c.requires.queued x

pub returns-in_ok-seen-in-None-clause-queued : goal.returns-in_ok-seen-in-None-clause-queued
returns-in_ok-seen-in-None-clause-queued c =
    let m = c.args.made.now in
    queued_extends c.args.clauses.now m.values.items _ m.trail.items _ c.args.queue.now c.requires.sound c.in_ok-seen-in-None.ensures.extended c.requires.queued

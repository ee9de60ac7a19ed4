use Rattle.std.proofs.Common.{◌<◌, ◌∙◌, length, sym, ap, arith}
use Rattle.cs_search.specs.declared.choose.Choice.TheVariants.{Nothing, Alone, Forced, Free}
use Rattle.cs_search.proofs.Passes.{at_index, extended_itself}
use Rattle.cs_search.proofs.Choices.{chosen_at, chosen_conflict, entered_free}
use Rattle.cs_search.proofs.propagate.enter.Goals as goal

pub enter_alone-requires-clause-chosen : goal.enter_alone-requires-clause-chosen
enter_alone-requires-clause-chosen c =
    let q = c.args.queue.now in
    let k = c.index-clauses-len.result in
    let e = c.len.ensures ∙ q.watches.ok.0 in
    let lt : c.len.result < length c.args.clauses.now = omega (arith, e, c.requires.within) in
    chosen_at c.args.clauses.now (length q.watches.items) c.len.result k c.args.made.now.values.items _ _ (Alone c.in-Alone.only) e (at_index c.args.clauses.now c.len.result k lt c.index-clauses-len.is) c.deref.ensures.value
    (c.deref-2.ensures.value ∙ ap (λ x. x.literals.items) (sym c.index-clauses-len.is)) c.in-Alone.ensures

pub enter_forced-requires-clause-chosen : goal.enter_forced-requires-clause-chosen
enter_forced-requires-clause-chosen c =
    let q = c.args.queue.now in
    let k = c.index-clauses-len.result in
    let e = c.len.ensures ∙ q.watches.ok.0 in
    let lt : c.len.result < length c.args.clauses.now = omega (arith, e, c.requires.within) in
    chosen_at c.args.clauses.now (length q.watches.items) c.len.result k c.args.made.now.values.items _ _ (Forced c.in-Forced.pair) e (at_index c.args.clauses.now c.len.result k lt c.index-clauses-len.is) c.deref.ensures.value
    (c.deref-2.ensures.value ∙ ap (λ x. x.literals.items) (sym c.index-clauses-len.is)) c.in-Forced.ensures

pub returns-in-Nothing-clause-conflict : goal.returns-in-Nothing-clause-conflict
returns-in-Nothing-clause-conflict c t =
    let q = c.args.queue.now in
    let m = c.args.made.now in
    let k = c.index-clauses-len.result in
    let e = c.len.ensures ∙ q.watches.ok.0 in
    let lt : c.len.result < length c.args.clauses.now = omega (arith, e, c.requires.within) in
    chosen_conflict c.args.clauses.now m.values.items m.trail.items (length q.watches.items) c.requires.sound.sound
    (chosen_at c.args.clauses.now (length q.watches.items) c.len.result k m.values.items _ _ Nothing e (at_index c.args.clauses.now c.len.result k lt c.index-clauses-len.is) c.deref.ensures.value
    (c.deref-2.ensures.value ∙ ap (λ x. x.literals.items) (sym c.index-clauses-len.is)) c.in-Nothing.ensures)

pub returns-in_ok-watch_both-in-Free-clause-queued : goal.returns-in_ok-watch_both-in-Free-clause-queued
returns-in_ok-watch_both-in-Free-clause-queued c =
    let q = c.args.queue.now in
    let m = c.args.made.now in
    let k = c.index-clauses-len.result in
    let e = c.len.ensures ∙ q.watches.ok.0 in
    let lt : c.len.result < length c.args.clauses.now = omega (arith, e, c.requires.within) in
    entered_free c.args.clauses.now m.values.items m.trail.items q c.watch_both.new.queue c.in-Free.pair c.requires.sound
    (chosen_at c.args.clauses.now (length q.watches.items) c.len.result k m.values.items _ _ (Free c.in-Free.pair) e (at_index c.args.clauses.now c.len.result k lt c.index-clauses-len.is) c.deref.ensures.value
    (c.deref-2.ensures.value ∙ ap (λ x. x.literals.items) (sym c.index-clauses-len.is)) c.in-Free.ensures)
    c.in_ok-watch_both-in-Free.ensures.watches c.in_ok-watch_both-in-Free.ensures.rows c.watch_both.ensures.head c.requires.queued

pub enter_alone-requires-clause-sound : goal.enter_alone-requires-clause-sound
enter_alone-requires-clause-sound c = c.requires.sound

pub enter_alone-requires-clause-queued : goal.enter_alone-requires-clause-queued
enter_alone-requires-clause-queued c = c.requires.queued

pub enter_forced-requires-clause-sound : goal.enter_forced-requires-clause-sound
enter_forced-requires-clause-sound c = c.requires.sound

pub enter_forced-requires-clause-queued : goal.enter_forced-requires-clause-queued
enter_forced-requires-clause-queued c = c.requires.queued

pub returns-in-Nothing-clause-extended : goal.returns-in-Nothing-clause-extended
returns-in-Nothing-clause-extended c = extended_itself c.args.clauses.now c.args.made.now.values.items c.args.made.now.trail.items c.requires.sound.sound

pub returns-in-Nothing-clause-queued : goal.returns-in-Nothing-clause-queued
returns-in-Nothing-clause-queued c = c.requires.queued

pub returns-in_ok-watch_both-in-Free-clause-extended : goal.returns-in_ok-watch_both-in-Free-clause-extended
returns-in_ok-watch_both-in-Free-clause-extended c = extended_itself c.args.clauses.now c.args.made.now.values.items c.args.made.now.trail.items c.requires.sound.sound

pub returns-in_ok-held-in-Alone-clause-extended : goal.returns-in_ok-held-in-Alone-clause-extended
returns-in_ok-held-in-Alone-clause-extended c = c.in_ok-held-in-Alone.ensures.extended

pub returns-in_ok-held-in-Alone-clause-queued : goal.returns-in_ok-held-in-Alone-clause-queued
returns-in_ok-held-in-Alone-clause-queued c = c.in_ok-held-in-Alone.ensures.queued

pub returns-in_ok-held-in-Alone-clause-conflict : goal.returns-in_ok-held-in-Alone-clause-conflict
returns-in_ok-held-in-Alone-clause-conflict c = c.in_ok-held-in-Alone.ensures.conflict

pub returns-in_ok-held-in-Alone-clause-count : goal.returns-in_ok-held-in-Alone-clause-count
returns-in_ok-held-in-Alone-clause-count c = c.in_ok-held-in-Alone.ensures.count

pub returns-in_ok-held-in-Forced-clause-extended : goal.returns-in_ok-held-in-Forced-clause-extended
returns-in_ok-held-in-Forced-clause-extended c = c.in_ok-held-in-Forced.ensures.extended

pub returns-in_ok-held-in-Forced-clause-queued : goal.returns-in_ok-held-in-Forced-clause-queued
returns-in_ok-held-in-Forced-clause-queued c = c.in_ok-held-in-Forced.ensures.queued

pub returns-in_ok-held-in-Forced-clause-conflict : goal.returns-in_ok-held-in-Forced-clause-conflict
returns-in_ok-held-in-Forced-clause-conflict c = c.in_ok-held-in-Forced.ensures.conflict

pub returns-in_ok-held-in-Forced-clause-count : goal.returns-in_ok-held-in-Forced-clause-count
returns-in_ok-held-in-Forced-clause-count c = c.in_ok-held-in-Forced.ensures.count

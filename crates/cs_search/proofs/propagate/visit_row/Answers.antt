use Rattle.std.proofs.Common.{◌+◌, Some, length, refl, sym, ◌∙◌, ap, arith}
use Rattle.std.proofs.lemmas.Option.{slice_get_within}
use Rattle.cs_search.specs.declared.Status.TheVariants.{False}
use Rattle.cs_search.specs.Rows.{row, slot}
use Rattle.cs_search.proofs.Passes.{extended_itself, extended_twice}
use Rattle.cs_search.proofs.Queues.{held_first, held_all, held_some, less_some, stands_at, false_extends}
use Rattle.cs_search.proofs.propagate.visit_row.Goals as goal

pub loop-number-init : goal.loop-number-init
loop-number-init c =
    let m = c.args.made.now in
    record {
      extended = extended_itself c.args.clauses.now m.values.items m.trail.items c.requires.sound;
      queued = c.requires.queued;
      head = refl;
      count = refl;
      falsified = c.requires.falsified;
      held = held_first c.args.clauses.now m.values.items m.trail.items c.args.queue.now c.args.away c.requires.sound c.requires.falsified c.requires.queued;
    }

pub loop-number-preserved : goal.loop-number-preserved
loop-number-preserved c =
    let was = c.loop-number.invariant in
    let ok = c.in_ok-turn.ensures in
    let m = c.loop-number.made in
    let n = c.turn.new.made in
    let q = c.turn.new.queue in
    record {
      extended = extended_twice c.args.clauses.now _ _ _ _ _ _ was.extended ok.extended;
      queued = ok.queued;
      head = ok.head ∙ was.head;
      count = ok.count ∙ was.count;
      falsified = false_extends c.args.clauses.now m.values.items n.values.items m.trail.items n.trail.items c.args.away c.loop-number.queue.head was.extended.sound ok.extended was.falsified ∙ ap (λ x. False x) (sym ok.head);
      held = held_some c.args.clauses.now q.watches.items n.values.items (q.head + 1) (length n.trail.items) c.in-Some-2.next (row q.rows.items (slot c.args.away)) c.in_ok-turn.field-0 c.in-Some-2.is ok.held;
    }

pub loop-number-smaller : goal.loop-number-smaller
loop-number-smaller c =
    let q = c.loop-number.queue in
    let r = c.turn.new.queue in
    let at = stands_at q.rows.items _ c.slot.result c.loop-number.k c.args.away (Some c.in-Some.number) c.deref.ensures.value c.slot.ensures c.in-Some.ensures.value in
    let lt = slice_get_within (row q.rows.items (slot c.args.away)) c.loop-number.k c.in-Some.number at in
    let less = less_some (length (row r.rows.items (slot c.args.away))) (length (row q.rows.items (slot c.args.away))) c.loop-number.k c.in-Some-2.next c.in_ok-turn.field-0 c.in-Some-2.is c.in_ok-turn.ensures.less in
    omega (arith, lt, less)

pub returns-clause-watched : goal.returns-clause-watched
returns-clause-watched c =
    let q = c.loop-number.queue in
    let m = c.loop-number.made in
    let at = stands_at q.rows.items _ c.slot.result c.loop-number.k c.args.away c.number_at.result c.deref.ensures.value c.slot.ensures c.number_at.ensures.value in
    held_all c.args.clauses.now q.watches.items m.values.items (q.head + 1) (length m.trail.items) c.loop-number.k (row q.rows.items (slot c.args.away)) (at ∙ c.in_default.is) c.loop-number.invariant.held

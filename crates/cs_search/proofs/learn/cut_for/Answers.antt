use Rattle.std.proofs.Common.{length, refl, ap, arith}
use Rattle.cs_search.proofs.Passes.{placed_below}
use Rattle.cs_search.proofs.Learns.{closed_over}
use Rattle.cs_search.proofs.learn.cut_for.Goals as goal

pub settle-requires-clause-within : goal.settle-requires-clause-within
settle-requires-clause-within c =
    let m = c.args.made.now in
    let lt = placed_below c.args.clauses.now m.values.items m.trail.items c.requires.sound c.in-Some.top.literal c.in-Some.top.place c.in-Some.ensures.1 in
    let e = ap (λ x. length x) c.deref-in-Some.ensures.value in
    omega (arith, lt, e)

pub returns-in-Some-clause-within : goal.returns-in-Some-clause-within
returns-in-Some-clause-within c =
    let m = c.args.made.now in
    let lt = placed_below c.args.clauses.now m.values.items m.trail.items c.requires.sound c.in-Some.top.literal c.in-Some.top.place c.in-Some.ensures.1 in
    omega (arith, lt, c.settle.ensures.within)

pub returns-in-Some-clause-closed : goal.returns-in-Some-clause-closed
returns-in-Some-clause-closed c =
    let m = c.args.made.now in
    closed_over m.values.items _ m.trail.items _ c.args.literals.now _ c.settle.result c.deref.ensures.value c.deref-in-Some.ensures.value refl c.settle.ensures.settled.closed

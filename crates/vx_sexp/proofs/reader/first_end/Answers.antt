use Rattle.std.proofs.Common.{rules, ◌≡◌, ℕ, [], drop, arith, length-drop, refl}
use Rattle.std.proofs.lemmas.Grind.{common_steps}
use Rattle.vx_sexp.specs.Views.{between}
use Rattle.vx_sexp.proofs.Firsts.{begun_on, begun_ends, next_none, begun_bad, next_shorter}
use Rattle.vx_sexp.proofs.reader.first_end.Goals as goal

pub returns-in-Some-eq0-clause-first : goal.returns-in-Some-eq0-clause-first
returns-in-Some-eq0-clause-first c =
    let found = c.in-Found.ensures in
    let deep = c.in-Some-eq0.ensures (between c.in-Found.start c.in-Found.end c.args.bytes.now) in
    let first = begun_ends _ _ c.loop-at.invariant.so_far found.2 deep.0 deep.1 (search rules) in
    (found.1, first.0, first.1)

pub returns-in-None-clause-fault : goal.returns-in-None-clause-fault
returns-in-None-clause-fault c =
    let found = c.in-Found.ensures in
    let nothing = c.in-None.ensures (between c.in-Found.start c.in-Found.end c.args.bytes.now) in
    let bad = begun_bad _ _ c.loop-at.invariant.so_far found.2 found.3 nothing in
    (omega arith, bad.0, bad.1, bad.2, bad.3)

pub loop-at-smaller : goal.loop-at-smaller
loop-at-smaller c =
    let h = next_shorter _ _ _ c.in-Found.ensures.2 in
    omega (arith, length-drop {A = ℕ})

pub loop-at-preserved : goal.loop-at-preserved
loop-at-preserved c =
    let found = c.in-Found.ensures in
    let h = next_shorter _ _ _ found.2 in
    let deep = c.in-Some.ensures (between c.in-Found.start c.in-Found.end c.args.bytes.now) in
    record {
      within = found.1;
      shallow = omega (arith, length-drop {A = ℕ});
      so_far = begun_on _ _ c.loop-at.invariant.so_far found.2 deep.0 deep.1 c.in-Some.open-test.1;
    }

pub returns-clause-fault : goal.returns-clause-fault
returns-clause-fault c =
    let whole : drop c.loop-at.at c.args.bytes.now ≡ [] = grind (arith, common_steps, length-drop {A = ℕ}) in
    (refl, c.loop-at.invariant.so_far.tokens, _, c.loop-at.invariant.so_far.begins, rw whole next_none)

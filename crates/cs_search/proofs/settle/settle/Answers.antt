use Rattle.std.proofs.Common.{arith}
use Rattle.std.proofs.lemmas.Bool.{both_ways}
use Rattle.cs_search.proofs.Settles.{settled_before, settled_first}
use Rattle.cs_search.proofs.settle.settle.Goals as goal

pub returns-then-not-leaves_only-clause-settled : goal.returns-then-not-leaves_only-clause-settled
returns-then-not-leaves_only-clause-settled c =
    settled_before _ c.args.trail.now _ _ c.args.from c.loop-before.cut c.in-Some.before c.loop-before.invariant.leaves c.loop-before.invariant.within c.requires.free c.requires.contained c.in-Some.ensures
    (λ h. both_ways _ c.if-not-leaves_only.true (c.leaves_only.ensures.1 h))

pub returns-clause-settled : goal.returns-clause-settled
returns-clause-settled c = settled_first c.args.values.now c.args.trail.now c.args.literals.now c.args.forced c.args.from c.loop-before.cut c.loop-before.invariant.leaves c.loop-before.invariant.within c.requires.free c.in_default.ensures

pub loop-before-preserved : goal.loop-before-preserved
loop-before-preserved c =
    record {
      within = omega (arith, c.in-Some.ensures.0, c.loop-before.invariant.within);
      leaves = c.leaves_only.ensures.0 c.if-not-leaves_only.false;
      decision = λ d. c.in-Some.ensures.1;
    }

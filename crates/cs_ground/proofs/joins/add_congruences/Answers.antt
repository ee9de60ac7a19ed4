use Rattle.cs_derivation.specs.View.{reached}
use Rattle.cs_ground.specs.Steps.{IsCongruenceOfOne}
use Rattle.cs_ground.proofs.Collected.{first_none, next_of, all_of_them}
use Rattle.cs_ground.proofs.joins.add_congruences.Goals as goal

pub loop-i-init : goal.loop-i-init
loop-i-init c = λ stack h. first_none (IsCongruenceOfOne c.args.count) stack (reached c.args.derivation.now) h

pub loop-i-preserved : goal.loop-i-preserved
loop-i-preserved c = λ stack h.
    next_of (IsCongruenceOfOne c.args.count) c.loop-i.i stack (reached c.args.derivation.now) (reached c.loop-i.derivation) (reached c.add_congruences_of_one.new.derivation) (c.loop-i.invariant stack h) (c.in_ok-add_congruences_of_one.ensures stack)

pub returns : goal.returns
returns c = λ stack h.
    all_of_them (IsCongruenceOfOne c.args.count) c.loop-i.i c.args.count stack (reached c.args.derivation.now) (reached c.loop-i.derivation) c.loop-i-test.false (c.loop-i.invariant stack h)

use Rattle.cs_derivation.specs.View.{reached}
use Rattle.cs_ground.specs.Steps.{IsChainOfTwo}
use Rattle.cs_ground.proofs.Collected.{first_none, next_of, all_of_them}
use Rattle.cs_ground.proofs.joins.add_chains_of_one.Goals as goal

pub loop-j-init : goal.loop-j-init
loop-j-init c = λ stack h. first_none (IsChainOfTwo c.args.count c.args.i) stack (reached c.args.derivation.now) h

pub loop-j-preserved : goal.loop-j-preserved
loop-j-preserved c = λ stack h.
    next_of (IsChainOfTwo c.args.count c.args.i) c.loop-j.j stack (reached c.args.derivation.now) (reached c.loop-j.derivation) (reached c.add_chains_of_two.new.derivation) (c.loop-j.invariant stack h) (c.in_ok-add_chains_of_two.ensures stack)

pub returns : goal.returns
returns c = λ stack h.
    all_of_them (IsChainOfTwo c.args.count c.args.i) c.loop-j.j c.args.count stack (reached c.args.derivation.now) (reached c.loop-j.derivation) c.loop-j-test.false (c.loop-j.invariant stack h)

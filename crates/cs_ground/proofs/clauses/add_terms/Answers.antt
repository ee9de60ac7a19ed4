use Rattle.cs_derivation.specs.View.{reached}
use Rattle.cs_ground.specs.Steps.{IsOf}
use Rattle.cs_ground.proofs.Collected.{first_none, next_of, all_of_them}
use Rattle.cs_ground.proofs.clauses.add_terms.Goals as goal

pub loop-t-init : goal.loop-t-init
loop-t-init c = λ stack h. first_none IsOf stack (reached c.args.derivation.now) h

pub loop-t-preserved : goal.loop-t-preserved
loop-t-preserved c = λ stack h.
    next_of IsOf c.loop-t.t stack (reached c.args.derivation.now) (reached c.loop-t.derivation) (reached c.add_term.new.derivation) (c.loop-t.invariant stack h) (c.in_ok-add_term.ensures stack)

pub returns : goal.returns
returns c = λ stack h.
    all_of_them IsOf c.loop-t.t c.args.count stack (reached c.args.derivation.now) (reached c.loop-t.derivation) c.loop-t-test.false (c.loop-t.invariant stack h)

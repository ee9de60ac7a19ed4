use Rattle.cs_certificate.specs.Certificate.{Congruence}
use Rattle.cs_derivation.specs.View.{reached}
use Rattle.cs_ground.specs.Steps.{IsCongruenceOf}
use Rattle.cs_ground.proofs.Collected.{is_congruence, first_none, next_tried, all_of_them}
use Rattle.cs_ground.proofs.joins.add_congruences_of_one.Goals as goal

pub loop-j-init : goal.loop-j-init
loop-j-init c = λ stack h. first_none (IsCongruenceOf c.args.i) stack (reached c.args.derivation.now) h

pub loop-j-preserved : goal.loop-j-preserved
loop-j-preserved c = λ stack h.
    next_tried (Congruence c.args.i) c.loop-j.j stack (reached c.args.derivation.now) (reached c.loop-j.derivation) (reached c.congruence.new.self) c.in_ok-congruence.field-0 (is_congruence c.args.i c.loop-j.j) (c.loop-j.invariant stack h) (c.in_ok-congruence.ensures stack)

pub returns : goal.returns
returns c = λ stack h.
    all_of_them (IsCongruenceOf c.args.i) c.loop-j.j c.args.count stack (reached c.args.derivation.now) (reached c.loop-j.derivation) c.loop-j-test.false (c.loop-j.invariant stack h)

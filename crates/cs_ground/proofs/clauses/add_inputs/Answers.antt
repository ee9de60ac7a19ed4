use Rattle.cs_certificate.specs.Certificate.{Input}
use Rattle.cs_derivation.specs.View.{reached}
use Rattle.cs_ground.specs.Steps.{IsInputOf}
use Rattle.cs_ground.proofs.Collected.{is_input, first_none, next_tried, all_of_them}
use Rattle.cs_ground.proofs.clauses.add_inputs.Goals as goal

pub loop-number-init : goal.loop-number-init
loop-number-init c = λ stack h. first_none IsInputOf stack (reached c.args.derivation.now) h

pub loop-number-preserved : goal.loop-number-preserved
loop-number-preserved c = λ stack h.
    next_tried Input c.loop-number.number stack (reached c.args.derivation.now) (reached c.loop-number.derivation) (reached c.input.new.self) c.in_ok-input.field-0 (is_input c.loop-number.number) (c.loop-number.invariant stack h) (c.in_ok-input.ensures stack)

pub returns : goal.returns
returns c = λ stack h.
    all_of_them IsInputOf c.loop-number.number c.args.count stack (reached c.args.derivation.now) (reached c.loop-number.derivation) c.loop-number-test.false (c.loop-number.invariant stack h)

use Rattle.cs_proof.specs.Fits.{seen}
use Rattle.cs_session.specs.Views.{levels_of}
use Rattle.cs_session.proofs.Told.{refutes, satisfies, leaves_open}
use Rattle.cs_session.proofs.session.checked.Goals as goal

pub returns-in-Refuted : goal.returns-in-Refuted
returns-in-Refuted c = refutes (levels_of c.args.levels.now) (seen c.stack.result.now) c.in_ok-steps.field-0 c.in-Refuted.steps c.stack.ensures.value c.in-Refuted.is c.stack.ensures.sorted c.in_ok-steps.ensures.refuted

pub returns-in-Satisfied : goal.returns-in-Satisfied
returns-in-Satisfied c = satisfies (levels_of c.args.levels.now) (seen c.stack.result.now) c.in_ok-steps.field-0 c.in-Satisfied.field-0 c.stack.ensures.value c.in-Satisfied.is c.in_ok-steps.ensures.satisfied

pub returns : goal.returns
returns c = leaves_open (levels_of c.args.levels.now) (seen c.stack.result.now) c.in_ok-steps.field-0 c.in-Unknown.cause c.stack.ensures.value c.in-Unknown.is c.in_ok-steps.ensures.caused c.in_ok-steps.ensures.few c.in_ok-steps.ensures.opposed

use Rattle.vx_expressions.specs.Views.{setting, claim_of}
use Rattle.vx_expressions.proofs.Forms.{gives_as, claimed_call_is}
use Rattle.vx_expressions.proofs.assertions.+claimed.Goals as goal

pub returns-in-Call : goal.returns-in-Call
returns-in-Call t c =
    let a = c.in-Call in
    gives_as claim_of c.call.result _ _ (claimed_call_is (setting c.args.s) c.args.e.now a.name a.es c.deref-in-Call.result.now c.deref-in-Call-2.result.now a.is c.deref-in-Call.ensures c.deref-in-Call-2.ensures.value) c.call.ensures

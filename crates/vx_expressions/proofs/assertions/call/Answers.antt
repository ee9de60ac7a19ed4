use Rattle.std.specs.Prelude.{option_map}
use Rattle.vx_ast.specs.Written.{written_all}
use Rattle.vx_expressions.specs.Faults.{call}
use Rattle.vx_expressions.specs.Views.{setting, signature, claim_of}
use Rattle.vx_expressions.proofs.Forms.{gives_as, called_is}
use Rattle.vx_expressions.proofs.assertions.call.Goals as goal

pub returns : goal.returns
returns c =
    let s = setting c.args.s in
    let es = written_all c.args.es.now in
    gives_as claim_of c.called.result (call s c.args.at c.args.name.now es) _
    (called_is s c.args.at c.args.name.now es c.in_ok-found.found.items c.deref.result.now (option_map signature c.member.result) c.in_ok-found.ensures c.deref.ensures.value c.member.ensures) c.called.ensures

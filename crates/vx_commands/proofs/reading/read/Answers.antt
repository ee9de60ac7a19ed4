use Rattle.std.proofs.Common.{◌≡◌, Result, Err, ap}
use Rattle.vx_parser.specs.declared.fault.TextFault.{TextFault}
use Rattle.vx_ast.specs.declared.Program.{Program}
use Rattle.vx_commands.proofs.reading.read.Goals as goal

err_is : {x y : TextFault} → (let r : Result Program TextFault = Err x in r) ≡ Err y → x ≡ y
err_is e = cc

pub returns-in_ok-text_refusal-in-Err : goal.returns-in_ok-text_refusal-in-Err
returns-in_ok-text_refusal-in-Err c = (
  c.in-Err.fault,
  record {
    told = c.in_ok-text_refusal-in-Err.ensures.told;
    spells_none = λ p s. c.in_ok-text_refusal-in-Err.ensures.told (c.in-Err.ensures.only p s);
    too_long = (λ e. c.in-Err.ensures.too_long.0 (ap Err e), λ long. err_is (c.in-Err.ensures.too_long.1 long));
    not_utf8 = λ short bad. err_is (c.in-Err.ensures.not_utf8 short bad);
    refused = c.in-Err.ensures.refused;
    reads = c.in-Err.ensures.reads;
  },
  c.in_ok-text_refusal-in-Err.ensures.line,
)

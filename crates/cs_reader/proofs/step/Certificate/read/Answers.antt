use Rattle.std.proofs.Common.{length, ap, arith}
use Rattle.cs_reader.proofs.Shorter.{headed_shorter}
use Rattle.cs_reader.proofs.step.Certificate.read.Goals as goal

pub steps-requires : goal.steps-requires
steps-requires c =
    let h = headed_shorter c.tokens.result.now c.in-Ok.rest.now c.in-Ok.ensures in
    let e = ap length c.tokens.ensures in
    let r = c.requires in
    omega arith

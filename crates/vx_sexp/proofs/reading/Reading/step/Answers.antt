use Rattle.std.proofs.Common.{◌≡◌, subst}
use Rattle.vx_sexp.specs.Scanning.{scan, Fails}
use Rattle.vx_sexp.proofs.Pieces.{run_fails, rest_whole}
use Rattle.vx_sexp.proofs.reading.Reading.step.Goals as goal

pub returns-in-Fails-clause-step : goal.returns-in-Fails-clause-step
returns-in-Fails-clause-step c =
    let r = c.args.self in
    run_fails r c.args.bytes.now c.requires (subst (λ x. scan r.mode x ≡ Fails) (rest_whole c.args.bytes.now r.at) c.in-Fails.ensures.stops)

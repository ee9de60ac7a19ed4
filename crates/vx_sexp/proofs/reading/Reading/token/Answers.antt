use Rattle.std.proofs.Common.{ap, ◌∙◌, sym}
use Rattle.vx_sexp.specs.declared.token.Token.TheVariants.{Open, Close}
use Rattle.vx_sexp.specs.Scanning.{token_at, Bad}
use Rattle.vx_sexp.proofs.Runs.{at_byte}
use Rattle.vx_sexp.proofs.Pieces.{paren, no_token}
use Rattle.vx_sexp.proofs.reading.Reading.token.Goals as goal

pub returns-in-Open-clause-step : goal.returns-in-Open-clause-step
returns-in-Open-clause-step c =
    let place = ap token_at (at_byte c.args.bytes.now c.args.at c.requires.within) ∙ c.in-Open.ensures _ in
    c.opened.ensures.step c.args.bytes.now (paren c.args.self c.args.bytes.now Open c.args.at c.requires place) place

pub returns-in-Close-clause-step : goal.returns-in-Close-clause-step
returns-in-Close-clause-step c =
    let place = ap token_at (at_byte c.args.bytes.now c.args.at c.requires.within) ∙ c.in-Close.ensures _ in
    c.closed.ensures.step c.args.bytes.now (paren c.args.self c.args.bytes.now Close c.args.at c.requires place) place

pub returns-in-Bad-clause-step : goal.returns-in-Bad-clause-step
returns-in-Bad-clause-step c =
    let byte = at_byte c.args.bytes.now c.args.at c.requires.within in
    no_token c.args.self c.args.bytes.now c.args.at c.requires (ap token_at byte ∙ c.in-Bad.ensures _ ∙ ap Bad (sym byte))

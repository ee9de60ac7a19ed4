use Rattle.std.proofs.Common.{ap}
use Rattle.vx_sexp.specs.Views.{family}
use Rattle.vx_sexp.specs.Pieces.{waits}
use Rattle.vx_sexp.proofs.Pieces.{before_of, word_ends, word_bad, text_ends, bars_end}
use Rattle.vx_sexp.proofs.reading.Reading.stopped.Goals as goal

pub token-requires : goal.token-requires
token-requires c = before_of c.args.self c.args.bytes.now c.args.at c.requires.reached c.requires.stops (ap waits c.in-Space.is)

pub token-requires-in-Comment : goal.token-requires-in-Comment
token-requires-in-Comment c = before_of c.args.self c.args.bytes.now c.args.at c.requires.reached c.requires.stops (ap waits c.in-Comment.is)

pub returns-in-Some-clause-step : goal.returns-in-Some-clause-step
returns-in-Some-clause-step c =
    c.atom.ensures.step c.args.bytes.now _ _ (word_ends c.args.self c.args.bytes.now c.args.at c.in-Some.field-0 c.requires.reached c.requires.stops c.in-Word.is c.in-Some.ensures)

pub returns-in-None-clause-step : goal.returns-in-None-clause-step
returns-in-None-clause-step c = word_bad c.args.self c.args.bytes.now c.args.at c.requires.reached c.requires.stops c.in-Word.is c.in-None.ensures

pub returns-in-Text-clause-step : goal.returns-in-Text-clause-step
returns-in-Text-clause-step c =
    c.atom-in-Text.ensures.step c.args.bytes.now _ _ (text_ends c.args.self c.args.bytes.now c.args.at c.requires.reached c.requires.stops (ap family c.in-Text.is))

pub returns-in-Quote-clause-step : goal.returns-in-Quote-clause-step
returns-in-Quote-clause-step c =
    c.atom-in-Quote.ensures.step c.args.bytes.now _ _ (text_ends c.args.self c.args.bytes.now c.args.at c.requires.reached c.requires.stops (ap family c.in-Quote.is))

pub returns-in-Bars-clause-step : goal.returns-in-Bars-clause-step
returns-in-Bars-clause-step c =
    c.atom-in-Bars.ensures.step c.args.bytes.now _ _ (bars_end c.args.self c.args.bytes.now c.args.at c.requires.reached c.requires.stops (ap family c.in-Bars.is))

-- What a function of the parser answers, by what reading gives.
use Rattle.std.specs.Prelude.{◌≡◌, Result, Ok, Err}
use Rattle.vx_grammar.specs.Reading.{Stop, Unexpected, Measured, TooDeep}
use Rattle.vx_tokens.specs.Tokens.{tokens_in}
use Rattle.vx_expr_parser.specs.declared.stop.Stop as the_stop
use Rattle.vx_expr_parser.specs.declared.stop.Stop.TheVariants as stops

-- an Err tells where reading stops, unless memory ran out
abbrev pub Stops : {Y : Type 0} → the_stop.Stop → Result Y Stop → Type 0
Stops stops.Memory read = Unit {0}
Stops (stops.Unexpected ts) read = read ≡ Err (Unexpected (tokens_in ts.now))
Stops (stops.Measured ts) read = read ≡ Err (Measured (tokens_in ts.now))
Stops (stops.TooDeep ts) read = read ≡ Err (TooDeep (tokens_in ts.now))

-- what was returned, seen by view, is what reading gives, unless memory ran out
abbrev pub Gives : {X Y : Type 0} → (X → Y) → Result X the_stop.Stop → Result Y Stop → Type 0
Gives view (Ok x) read = read ≡ Ok (view x)
Gives view (Err e) read = Stops e read

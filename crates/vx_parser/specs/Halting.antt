-- What a function of the parser answers that may stop for want of a function's body.
use Rattle.std.specs.Prelude.{◌≡◌, Result, Ok, Err}
use Rattle.vx_ast.specs.Written.{Member}
use Rattle.vx_tokens.specs.Tokens.{tokens_in}
use Rattle.vx_grammar.specs.Reading.{Read, Unexpected, Measured, TooDeep}
use Rattle.vx_grammar.specs.MemberReading.{MemberStop, stopped, bodiless, measured_twice, Halting}
use Rattle.vx_expr_parser.specs.declared.stop.Stop.TheVariants as stops
use Rattle.vx_parser.specs.declared.stop.MemberStop as the_stop
use Rattle.vx_parser.specs.declared.stop.MemberStop.TheVariants as halts

-- an Err tells where reading stops, unless memory ran out
abbrev pub MemberStops : {Y : Type 0} → the_stop.MemberStop → Result Y MemberStop → Type 0
MemberStops (halts.Stopped stops.Memory) read = Unit {0}
MemberStops (halts.Stopped (stops.Unexpected ts)) read = read ≡ Err (stopped (Unexpected (tokens_in ts.now)))
MemberStops (halts.Stopped (stops.Measured ts)) read = read ≡ Err (stopped (Measured (tokens_in ts.now)))
MemberStops (halts.Stopped (stops.TooDeep ts)) read = read ≡ Err (stopped (TooDeep (tokens_in ts.now)))
MemberStops (halts.Bodiless ts) read = read ≡ Err (bodiless (tokens_in ts.now))
MemberStops (halts.MeasuredTwice ts) read = read ≡ Err (measured_twice (tokens_in ts.now))

-- what was returned, seen by view, is what reading gives, unless memory ran out
abbrev pub GivesMember : {X Y : Type 0} → (X → Y) → Result X the_stop.MemberStop → Result Y MemberStop → Type 0
GivesMember view (Ok x) read = read ≡ Ok (view x)
GivesMember view (Err e) read = MemberStops e read

-- what reading a member gives, and what it gives where it may stop for want of a body
abbrev pub Answer : Type 0
Answer = Read Member

abbrev pub HaltedAnswer : Type 0
HaltedAnswer = Halting Member

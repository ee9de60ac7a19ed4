-- What a step's function returns, beside the clause that is computed.
use Rattle.std.specs.Prelude.{◌≡◌, Bool, true, false, List, map, Option, Some, None, Ok, Err}
use Rattle.std.specs.declared.result.Result.{Result}
use Rattle.cs_certificate.specs.Certificate.{NumberedLiteral, Plain, Negated, Sign}
use Rattle.cs_table.specs.declared.steps.Literal.{Literal}
use Rattle.cs_table.specs.declared.steps.Stop.{Stop}
use Rattle.cs_table.specs.declared.steps.Stop.TheVariants as stops

abbrev pub sign_of : Bool → Sign
sign_of true = Plain
sign_of false = Negated

abbrev pub numbered : Literal → NumberedLiteral
numbered l = record { sign = sign_of l.positive; number = l.number }

abbrev pub clause : List Literal → List NumberedLiteral
clause ls = map numbered ls

-- what was returned, seen by view, is what is computed, unless memory ran out
abbrev pub Fails : {Y : Type 0} → Stop → Option Y → Type 0
Fails stops.Want computed = Unit {0}
Fails stops.Miss computed = computed ≡ None

abbrev pub Gives : {X Y : Type 0} → (X → Y) → Result X Stop → Option Y → Type 0
Gives view (Ok x) computed = computed ≡ Some (view x)
Gives view (Err e) computed = Fails e computed

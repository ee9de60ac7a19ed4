-- The values and outcomes that the code's stand for.
use Rattle.std.specs.Prelude.{ℕ, ℤ, Bool, true, false, Result, Ok, Err}
use Rattle.std.specs.Int.{int_div_euclid}
use Rattle.vx_ast.specs.declared.Place.{Place}
use Rattle.vx_frac.specs.Fraction.{fraction}
use Rattle.vx_ast.specs.Syntax.{Operator, Equal}
use Rattle.vx_frac.specs.Fractions.{Fraction, whole as whole_number}
use Rattle.vx_frac.specs.declared.Op.TheVariants as calls
use Rattle.vx_frac.specs.declared.Frac.{Frac}
use Rattle.vx_frac.specs.declared.Over.{Over}
use Rattle.vx_meaning.specs.Values.{Value, IntValue, BoolValue, RefValue, PermValue}
use Rattle.vx_run.specs.Going.{Going, Outcome, Ended, Stopped, Failed, Running, Wide, gives, ends_with}
use Rattle.vx_run.specs.declared.values.Value.{Value as Value'}
use Rattle.vx_run.specs.declared.values.Value.TheVariants as value'
use Rattle.vx_run.specs.declared.outcome.Whole.{Whole}
use Rattle.vx_run.specs.declared.outcome.Whole.TheVariants as whole

abbrev pub value : Value' → Value
value (value'.Int z) = IntValue z
value (value'.Bool b) = BoolValue b
value (value'.Ref r) = RefValue r
value (value'.Perm a) = PermValue (fraction a)

abbrev pub outcome : Whole → Outcome
outcome whole.Ended = Ended
outcome (whole.Stopped at) = Stopped at
outcome (whole.Failed at) = Failed at
outcome whole.Running = Running
outcome (whole.Wide at op a b) = Wide at op (fraction a) (fraction b)

-- what a part of a run that draws came to: a value, with the supply as it was, or its end
abbrev pub told : Result Value' Whole → Going ℕ Value
told (Ok v) = gives (value v)
told (Err w) = ends_with (outcome w)

abbrev pub told_amount : Result Frac Whole → Going ℕ Fraction
told_amount (Ok q) = gives (fraction q)
told_amount (Err w) = ends_with (outcome w)

-- the value that the result of an operation is, or the end where it leaves 128 bits
abbrev pub computed : Place → (Fraction → Value) → Result Frac Over → Going ℕ Value
computed at f (Ok x) = gives (f (fraction x))
computed at f (Err call) = ends_with (Wide at call.op (fraction call.a) (fraction call.b))

-- an operator on values of which it takes no numbers
abbrev pub only_equality : Place → Operator → Bool → Going ℕ Value
only_equality at Equal same = gives (BoolValue same)
only_equality at op same = ends_with (Failed at)

-- a quotient of whole numbers, where it fits
abbrev pub quotient : Place → ℤ → ℤ → Bool → Going ℕ Value
quotient at a b true = gives (IntValue (int_div_euclid a b))
quotient at a b false = ends_with (Wide at calls.Div (whole_number a) (whole_number b))

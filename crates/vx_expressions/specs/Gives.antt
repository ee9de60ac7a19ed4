-- What a check answers, by the first fault.
use Rattle.std.specs.Prelude.{◌≡◌, Option, Some, None, IfSome, Result, Ok, Err, string_bytes}
use Rattle.vx_expressions.specs.declared.fault.TypeFault as fault'
use Rattle.vx_expressions.specs.declared.fault.TypeFault.TheVariants as faults
use Rattle.vx_expressions.specs.Faults.{Fault, Checked, Unknown, Twice, Mismatch, Impure, Arity, NoMeasure, MixedMeasures, AmountNotConstant, NotHere, NotAssignable, OldHere, ResultHere, UnfoldAbstract}
use Rattle.vx_expressions.specs.Views.{expected}

-- the fault that is told; want of memory is none of the text
abbrev pub told : fault'.TypeFault → Option Fault
told faults.Want = None
told (faults.Unknown at x) = Some (Unknown at (string_bytes x))
told (faults.Twice at x) = Some (Twice at (string_bytes x))
told (faults.Mismatch at e t) = Some (Mismatch at (expected e) t)
told (faults.Impure at) = Some (Impure at)
told (faults.Arity at n m) = Some (Arity at n m)
told (faults.NoMeasure at) = Some (NoMeasure at)
told (faults.MixedMeasures at) = Some (MixedMeasures at)
told (faults.AmountNotConstant at) = Some (AmountNotConstant at)
told (faults.NotHere at) = Some (NotHere at)
told (faults.NotAssignable at) = Some (NotAssignable at)
told (faults.OldHere at) = Some (OldHere at)
told (faults.ResultHere at) = Some (ResultHere at)
told (faults.UnfoldAbstract at) = Some (UnfoldAbstract at)

-- the fault is the first one, unless memory ran out
abbrev pub Fails : {Y : Type 0} → fault'.TypeFault → Checked Y → Type 0
Fails e checked = IfSome (told e) (λ f. checked ≡ Err f)

-- what was returned, seen by view, is what the check gives, unless memory ran out
abbrev pub Gives : {X Y : Type 0} → (X → Y) → Result X fault'.TypeFault → Checked Y → Type 0
Gives view (Ok x) checked = checked ≡ Ok (view x)
Gives view (Err e) checked = Fails e checked

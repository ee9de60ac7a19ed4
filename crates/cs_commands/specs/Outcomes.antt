-- What is read, or the first fault.
use Rattle.std.specs.Prelude.{◌≡◌, Bool, true, false, List, ◌++◌, Option, Some, None, IfSome, Ok, Err}
use Rattle.std.specs.declared.result.Result.{Result}
use Rattle.cs_commands.specs.declared.fault.CommandFault.{CommandFault}
use Rattle.cs_commands.specs.declared.fault.CommandFault.TheVariants as faults

infixl 10 ◌>>=◌
abbrev pub ◌>>=◌ : {A B : Type 0} → Result A CommandFault → (A → Result B CommandFault) → Result B CommandFault
(Ok x) >>= f = f x
(Err e) >>= f = Err e

-- where there is none, this is the fault
abbrev pub or_fault : {A : Type 0} → CommandFault → Option A → Result A CommandFault
or_fault e (Some x) = Ok x
or_fault e None = Err e

abbrev pub where_so : {A : Type 0} → CommandFault → Bool → A → Result A CommandFault
where_so e true x = Ok x
where_so e false x = Err e

abbrev pub with_front : {A B : Type 0} → List A → Result (List A × B) CommandFault → Result (List A × B) CommandFault
with_front xs read = read >>= λ r. Ok (xs ++ r.0, r.1)

-- the fault that is told; want of memory is none of the text
abbrev pub told : CommandFault → Option CommandFault
told faults.Want = None
told faults.Name = Some faults.Name
told faults.Wide = Some faults.Wide
told faults.Sort = Some faults.Sort
told faults.Levels = Some faults.Levels
told faults.Unsupported = Some faults.Unsupported

-- the fault is the first one, unless memory ran out
abbrev pub Fails : {Y : Type 0} → CommandFault → Result Y CommandFault → Type 0
Fails e read = IfSome (told e) (λ f. read ≡ Err f)

-- what was returned, seen by view, is what reading gives, unless memory ran out
abbrev pub Gives : {X Y : Type 0} → (X → Y) → Result X CommandFault → Result Y CommandFault → Type 0
Gives view (Ok x) read = read ≡ Ok (view x)
Gives view (Err e) read = Fails e read

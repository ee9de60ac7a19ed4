-- What it says that something was read, part by part.
use Rattle.std.proofs.Common.{◌≡◌, Bool, true, false, Option, Some, None, Ok, Err, refl}
use Rattle.std.specs.declared.result.Result.{Result}
use Rattle.cs_commands.specs.declared.fault.CommandFault.{CommandFault}
use Rattle.cs_commands.specs.Outcomes.{◌>>=◌, or_fault, where_so}

pub ok_is : {X : Type 0} {x y : X} → (let r : Result X CommandFault = Ok x in r) ≡ Ok y → x ≡ y
ok_is e = cc

pub not_ok : {X : Type 0} {R : Type 0} {e : CommandFault} {x : X} → (let r : Result X CommandFault = Err e in r) ≡ Ok x → R
not_ok h = cc

pub not_some : {X : Type 0} {R : Type 0} {x : X} → (let o : Option X = None in o) ≡ Some x → R
not_some h = cc

-- the value of the first part, and that the second goes on from it
pub bound : {X Y : Type 0} (r : Result X CommandFault) (k : X → Result Y CommandFault) (y : Y) → (r >>= k) ≡ Ok y → (x : X) × (r ≡ Ok x) × (k x ≡ Ok y)
bound (Ok x) k y e = (x, refl, e)
bound (Err f) k y e = not_ok e

-- the value that was there
pub present : {X : Type 0} (f : CommandFault) (o : Option X) (x : X) → or_fault f o ≡ Ok x → o ≡ Some x
present f (Some y) x e = let is : y ≡ x = ok_is e in cc
present f None x e = not_ok e

-- the test was passed
pub passed : {X : Type 0} (f : CommandFault) (b : Bool) (x y : X) → where_so f b x ≡ Ok y → (b ≡ true) × (x ≡ y)
passed f true x y e = (refl, ok_is e)
passed f false x y e = not_ok e

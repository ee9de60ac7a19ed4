-- A fault ends the check.
use Rattle.std.proofs.Common.{◌≡◌, Option, Some, None, Result, Ok, Err, ap, sym, subst}
use Rattle.std.specs.Prelude.{IfSome, IsErrAnd}
use Rattle.vx_expressions.specs.Faults.{Fault, Checked, ◌>>=◌}
use Rattle.vx_expressions.specs.declared.fault.TypeFault as fault'
use Rattle.vx_expressions.specs.Gives.{Gives, Fails, told}

some_on : {X Y : Type 0} (o : Option Fault) (x : Checked X) (k : X → Checked Y) → IfSome o (λ f. x ≡ Err f) → IfSome o (λ f. (x >>= k) ≡ Err f)
some_on None x k e = tt
some_on (Some f) x k e = ap (λ y. y >>= k) e

pub fails_on : {X Y : Type 0} (e : fault'.TypeFault) (x : Checked X) (k : X → Checked Y) → Fails e x → Fails e (x >>= k)
fails_on e x k h = some_on (told e) x k h

-- a fault is passed on
pub passed : {X Y : Type 0} (view : X → Y) (r : Result X fault'.TypeFault) (e : fault'.TypeFault) (checked : Checked Y) → IsErrAnd r (λ f. f ≡ e) → Fails e checked → Gives view r checked
passed view (Ok x) e checked is h = absurd is
passed view (Err f) e checked is h = subst (λ g. Fails g checked) (sym is) h

pub passed_on : {X Y Z : Type 0} (view : X → Y) (r : Result X fault'.TypeFault) (e : fault'.TypeFault) (x : Checked Z) (k : Z → Checked Y) → IsErrAnd r (λ f. f ≡ e) → Fails e x → Gives view r (x >>= k)
passed_on view r e x k is h = passed view r e (x >>= k) is (fails_on e x k h)

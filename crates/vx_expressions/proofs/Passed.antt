-- What it says that a check passed, part by part.
use Rattle.std.proofs.Common.{◌≡◌, Bool, true, false, ◌&&◌, refl, Ok, Err}
use Rattle.std.specs.Prelude.{⊤, if◌then◌else◌}
use Rattle.vx_ast.specs.declared.Place.{Place}
use Rattle.vx_ast.specs.declared.ValueType.{ValueType}
use Rattle.vx_ast.specs.declared.ValueType.TheVariants as type
use Rattle.vx_expressions.specs.Typing.{IsOrdered, int, perm}
use Rattle.vx_ast.specs.Types.{same_type}
use Rattle.vx_expressions.specs.Faults.{Fault, Checked, ◌>>=◌, unless, expect, expect_ordered}

pub ok_is : {X : Type 0} {x y : X} → (let r : Checked X = Ok x in r) ≡ Ok y → x ≡ y
ok_is e = cc

pub not_ok : {X : Type 0} {R : Type 0} {e : Fault} {x : X} → (let r : Checked X = Err e in r) ≡ Ok x → R
not_ok h = cc

-- the value of the first check, and that the second passes on it
pub bound : {X Y : Type 0} (r : Checked X) (k : X → Checked Y) (y : Y) → (r >>= k) ≡ Ok y → (x : X) × (r ≡ Ok x) × (k x ≡ Ok y)
bound (Ok x) k y e = (x, refl, e)
bound (Err f) k y e = not_ok e

pub chosen : {X : Type 0} (b : Bool) (x y : X) (f : Fault) → (if b then Ok x else Err f) ≡ Ok y → (b ≡ true) × (x ≡ y)
chosen true x y f e = (refl, ok_is e)
chosen false x y f e = not_ok e

pub tested : (b : Bool) (f : Fault) (u : ⊤) → unless b f ≡ Ok u → b ≡ true
tested true f u e = refl
tested false f u e = not_ok e

pub and_parts : (a b : Bool) → (a && b) ≡ true → (a ≡ true) × (b ≡ true)
and_parts true b e = (refl, e)
and_parts false b e = cc

pub and_true : (a b : Bool) → a ≡ true → b ≡ true → (a && b) ≡ true
and_true true b e f = f
and_true false b e f = cc

pub type_is : (t u : ValueType) → same_type t u ≡ true → t ≡ u
type_is type.Int type.Int e = refl
type_is type.Bool type.Bool e = refl
type_is type.Ref type.Ref e = refl
type_is type.Perm type.Perm e = refl
type_is t u e = cc

pub expected : (at : Place) (t found : ValueType) (u : ⊤) → expect at t found ≡ Ok u → found ≡ t
expected at t found u e = type_is found t (tested (same_type found t) _ u e)

pub as_expected : (at : Place) (t : ValueType) → expect at t t ≡ Ok tt
as_expected at type.Int = refl
as_expected at type.Bool = refl
as_expected at type.Ref = refl
as_expected at type.Perm = refl

pub ordered : (at : Place) (t : ValueType) (u : ⊤) → expect_ordered at t ≡ Ok u → IsOrdered t
ordered at type.Int u e = int
ordered at type.Perm u e = perm
ordered at t u e = not_ok e

pub as_ordered : (at : Place) {t : ValueType} → IsOrdered t → expect_ordered at t ≡ Ok tt
as_ordered at int = refl
as_ordered at perm = refl

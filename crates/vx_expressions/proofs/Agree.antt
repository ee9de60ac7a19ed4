-- The laws of typing.
use Rattle.std.proofs.Common.{◌≡◌, refl, sym, ◌∙◌, Ok, Err}
use Rattle.vx_expressions.specs.Laws.{HasFault, TypesAgree, ListsAgree, SharesAgree, ValuesAgree, PermissionsAgree, AssertionsAgree, UntypedAreFaulty, OthersAreFaulty, HasOneType, PermissionsAreNoValues}
use Rattle.vx_expressions.specs.Faults.{Checked, Value, Permission, check, assertion}
use Rattle.vx_expressions.proofs.Passed.{ok_is, not_ok}
use Rattle.vx_expressions.proofs.AgreesTypes.{to_type, to_types, to_share, from_type, from_types, from_share}
use Rattle.vx_expressions.proofs.AgreesClaims.{to_claim, to_assertion, value_claim, from_permission, passes}

pub types : TypesAgree
types s e t = (to_type s e t, from_type s)

pub lists : ListsAgree
lists s es ts = (to_types s es ts, from_types s)

pub shares : SharesAgree
shares s share = (to_share s share tt, from_share s)

pub values : ValuesAgree
values s e t = (to_claim s e (Value t), λ h. value_claim s e t (from_type s h))

pub permissions : PermissionsAgree
permissions s e = (to_claim s e Permission, from_permission s)

pub assertions : AssertionsAgree
assertions s e = (to_assertion s e tt, passes s e)

-- a check that gives nothing has a fault
pub faulty : {X : Type 0} (r : Checked X) → ((x : X) → r ≡ Ok x → ⊥) → HasFault r
faulty (Ok x) h = absurd (h x refl)
faulty (Err f) h = (f, refl)

pub gives_none : {X : Type 0} (r : Checked X) → HasFault r → (x : X) → r ≡ Ok x → ⊥
gives_none r h x e = not_ok (sym h.1 ∙ e)

pub untyped : UntypedAreFaulty
untyped s e = (λ h t k. gives_none (check s e) h t (from_type s k), λ h. faulty (check s e) (λ t k. h t (to_type s e t k)))

pub others : OthersAreFaulty
others s e = (λ h k. gives_none (assertion s e) h tt (passes s e k), λ h. faulty (assertion s e) (λ u k. h (to_assertion s e u k)))

pub one_type : HasOneType
one_type s e t u h k = ok_is (sym (from_type s h) ∙ from_type s k)

different : {R : Type 0} (r : Checked _) (t : _) → r ≡ Ok (Value t) → r ≡ Ok Permission → R
different r t h k = cc

pub no_values : PermissionsAreNoValues
no_values s e t h k = different _ t (value_claim s e t (from_type s h)) (from_permission s k)

-- Resources that are the same have the same amount.
use Rattle.std.proofs.Common.{◌≡◌, ℕ, ℤ, Bool, true, false, ◌&&◌, List, [], ◌∷◌, refl, sym, ◌∙◌, ap, ap₂, subst, true≢false, eqb-true, arith}
use Rattle.std.proofs.lemmas.Bool.{and_parts}
use Rattle.std.specs.Prelude.{nat_eq, if◌then◌else◌}
use Rattle.std.specs.Bool.{beq}
use Rattle.std.specs.Ordering.{int_eq}
use Rattle.std.proofs.lemmas.Int.{ints}
use Rattle.vx_ast.specs.Syntax.{Name, same_name}
use Rattle.vx_frac.specs.Fractions.{Fraction, same_fraction, sum}
use Rattle.vx_amounts.proofs.Amounts.{Same, same-of, same_is, same-sym, same-trans}
use Rattle.vx_meaning.specs.Values.{Value, IntValue, BoolValue, RefValue, PermValue, same_value, same_values}
use Rattle.vx_meaning.specs.States.{Location, Instance, Resource, At, Folded, Holdings, same_location, same_resource, amount}
use Rattle.vx_rules.proofs.Names.{same_name_is}

-- one holds where the other does
pub alike : (a b : Bool) → (a ≡ true → b ≡ true) → (b ≡ true → a ≡ true) → a ≡ b
alike true b f g = sym (f refl)
alike false true f g = g refl
alike false false f g = refl

int_is : (x y : ℤ) → int_eq x y ≡ true → x ≡ y
int_is x y e = grind (arith, ints)

truth_is : (a b : Bool) → beq a b ≡ true → a ≡ b
truth_is true true e = refl
truth_is true false e = absurd (true≢false (sym e))
truth_is false true e = absurd (true≢false (sym e))
truth_is false false e = refl

fractions_on : (a b c : Fraction) → same_fraction a b ≡ true → same_fraction a c ≡ same_fraction b c
fractions_on a b c e =
    let ab : Same a b = same-of {a = a} {b = b} e in
    let there = λ (h : same_fraction a c ≡ true). let ac : Same a c = same-of {a = a} {b = c} h in let bc : Same b c = same-trans (same-sym ab) ac in same_is {a = b} {b = c} bc in
    let back = λ (h : same_fraction b c ≡ true). let bc : Same b c = same-of {a = b} {b = c} h in let ac : Same a c = same-trans ab bc in same_is {a = a} {b = c} ac in
    alike (same_fraction a c) (same_fraction b c) there back

value_on : (u v w : Value) → same_value u v ≡ true → same_value u w ≡ same_value v w
value_on (IntValue a) (IntValue b) w e = ap (λ z. same_value (IntValue z) w) (int_is a b e)
value_on (BoolValue a) (BoolValue b) w e = ap (λ z. same_value (BoolValue z) w) (truth_is a b e)
value_on (RefValue a) (RefValue b) w e = ap (λ z. same_value (RefValue z) w) (eqb-true a b e)
value_on (PermValue a) (PermValue b) (PermValue c) e = fractions_on a b c e
value_on (PermValue a) (PermValue b) (IntValue c) e = refl
value_on (PermValue a) (PermValue b) (BoolValue c) e = refl
value_on (PermValue a) (PermValue b) (RefValue c) e = refl
value_on (IntValue a) (BoolValue b) w e = absurd (true≢false (sym e))
value_on (IntValue a) (RefValue b) w e = absurd (true≢false (sym e))
value_on (IntValue a) (PermValue b) w e = absurd (true≢false (sym e))
value_on (BoolValue a) (IntValue b) w e = absurd (true≢false (sym e))
value_on (BoolValue a) (RefValue b) w e = absurd (true≢false (sym e))
value_on (BoolValue a) (PermValue b) w e = absurd (true≢false (sym e))
value_on (RefValue a) (IntValue b) w e = absurd (true≢false (sym e))
value_on (RefValue a) (BoolValue b) w e = absurd (true≢false (sym e))
value_on (RefValue a) (PermValue b) w e = absurd (true≢false (sym e))
value_on (PermValue a) (IntValue b) w e = absurd (true≢false (sym e))
value_on (PermValue a) (BoolValue b) w e = absurd (true≢false (sym e))
value_on (PermValue a) (RefValue b) w e = absurd (true≢false (sym e))

values_on : (us vs ws : List Value) → same_values us vs ≡ true → same_values us ws ≡ same_values vs ws
values_on [] [] ws e = refl
values_on [] (v ∷ vs) ws e = absurd (true≢false (sym e))
values_on (u ∷ us) [] ws e = absurd (true≢false (sym e))
values_on (u ∷ us) (v ∷ vs) [] e = refl
values_on (u ∷ us) (v ∷ vs) (w ∷ ws) e =
    let p = and_parts _ _ e in ap₂ (λ (a b : Bool). a && b) (value_on u v w p.0) (values_on us vs ws p.1)

pub location_is : (a b : Location) → same_location a b ≡ true → a ≡ b
location_is a b e =
    let p = and_parts _ _ e in
    ap₂ (λ (n : ℕ) (f : Name). let l : Location = record { receiver = n; field = f } in l) (eqb-true a.receiver b.receiver p.0) (same_name_is a.field b.field p.1)

pub resource_on : (r s x : Resource) → same_resource r s ≡ true → same_resource r x ≡ same_resource s x
resource_on (At a) (At b) x e = ap (λ l. same_resource (At l) x) (location_is a b e)
resource_on (At a) (Folded j) x e = absurd (true≢false (sym e))
resource_on (Folded i) (At b) x e = absurd (true≢false (sym e))
resource_on (Folded i) (Folded j) (At c) e = refl
resource_on (Folded i) (Folded j) (Folded k) e =
    let p = and_parts _ _ e in
    ap₂ (λ (a b : Bool). a && b) (ap (λ n. same_name n k.predicate) (same_name_is i.predicate j.predicate p.0)) (values_on i.arguments j.arguments k.arguments p.1)

pub amount_on : (r s : Resource) (h : Holdings) → same_resource r s ≡ true → amount h r ≡ amount h s
amount_on r s [] e = refl
amount_on r s (x ∷ h) e = ap₂ (λ (b : Bool) (q : Fraction). if b then sum x.1 q else q) (resource_on r s x.0 e) (amount_on r s h e)

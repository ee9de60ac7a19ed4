-- A write of what is held whole keeps what is held.
use Rattle.std.proofs.Common.{◌≡◌, ℕ, Bool, true, false, cond, ◌&&◌, ◌∷◌, refl, sym, ap, subst}
use Rattle.vx_frac.specs.Fractions.{Fraction, none, full, sum, minus}
use Rattle.vx_ast.specs.Syntax.{Name, Program}
use Rattle.vx_ast.specs.Types.{same_type}
use Rattle.vx_meaning.specs.Values.{Value, type_of}
use Rattle.vx_meaning.specs.States.{Heap, Holdings, Location, At, same_location, amount, lost, value_at, find_value, field_type}
use Rattle.vx_meaning.specs.Consistent.{total, IsHeld}
use Rattle.vx_amounts.proofs.Amounts.{Le, Positive, le-trans, le-is, none-full, full-positive, positive-le, positive-or, not-positive, sum_comm, none-sum, sum-minus, sum_assoc, add-left, same-trans, same-sym, same-refl, sum_same, Same}
use Rattle.vx_sound.proofs.World.{at_field}
use Rattle.vx_sound.proofs.Chunks.{location_is, spread_bare, held_directly}
use Rattle.vx_sound_preds.specs.Bodies.{GoodBodies}
use Rattle.vx_sound_preds.proofs.Holding.{taken}
use Rattle.vx_runs.proofs.Followed.{Any, Sane, SaneKept, Agree}
use Rattle.vx_runs.proofs.Agreeing.{held_there}

pub write_elsewhere : (p : Program) (h : Heap) (l m : Location) (v : Value) → same_location m l ≡ false → value_at p ((l, v) ∷ h) m ≡ value_at p h m
write_elsewhere p h l m v e = ap (λ (b : Bool). cond (b && same_type (type_of v) (field_type p m.field)) v (find_value (field_type p m.field) h m)) e

-- with one taken off
off : (x : Fraction) → Le x full → Le (sum (minus full) x) none
off x le = le-trans (add-left (minus full) le) (same-trans (sum_comm (minus full) full) (sum-minus full)).there

on_again : (x : Fraction) → Le (sum (minus full) x) none → Le x full
on_again x le =
    let e : Same (sum full (sum (minus full) x)) x = same-trans (same-sym (sum_assoc full (minus full) x)) (same-trans (sum_same (sum-minus full) (same-refl x)) (none-sum x)) in
    le-trans e.back (le-trans (add-left full le) (same-trans (sum_comm full none) (none-sum full)).there)

pub record Written (p : Program) (h g : Heap) (held : Holdings) : Type 0 where
  pub sane : Sane p g held
  pub back : (m : Location) → IsHeld p g held m → IsHeld p h held m
  pub there : (m : Location) → IsHeld p h held m → IsHeld p g held m

module _ (p : Program) (good : GoodBodies p) (kept : SaneKept p) (h : Heap) (held : Holdings) (l : Location) (v : Value) (s : Sane p h held) (own : Le full (amount held (At l))) where
  rest : Holdings
  rest = lost (At l) full held

  pub rest_sane : Sane p h (lost (At l) full held)
  rest_sane = taken p good Any true h held (At l) full tt none-full own s

  -- of another location as much is held
  other_total : (n : ℕ) (k : Heap) (m : Location) → same_location m l ≡ false → total p n k (lost (At l) full held) m ≡ total p n k held m
  other_total n k m e = ap (λ (b : Bool). cond b (sum (minus full) (total p n k held m)) (total p n k held m)) e

  own_total : (n : ℕ) (k : Heap) (m : Location) → same_location m l ≡ true → total p n k (lost (At l) full held) m ≡ sum (minus full) (total p n k held m)
  own_total n k m e = ap (λ (b : Bool). cond b (sum (minus full) (total p n k held m)) (total p n k held m)) e

  not_left : (m : Location) → same_location m l ≡ true → IsHeld p h (lost (At l) full held) m → ⊥
  not_left m e (n, z) = not-positive (record { holds = z }) (le-trans (le-is (own_total n h m e)) (off (total p n h held m) (s.most refl n m)))

  pub agrees : Agree p h (lost (At l) full held) ((l, v) ∷ h)
  agrees m z = go (same_location m l) refl
    where
      go : (b : Bool) → same_location m l ≡ b → value_at p ((l, v) ∷ h) m ≡ value_at p h m
      go true e = absurd (not_left m e z)
      go false e = write_elsewhere p h l m v e

  there_sane : Sane p ((l, v) ∷ h) (lost (At l) full held)
  there_sane = let r = kept h ((l, v) ∷ h) (lost (At l) full held) rest_sane agrees in r.0

  there_back : (m : Location) → IsHeld p ((l, v) ∷ h) (lost (At l) full held) m → IsHeld p h (lost (At l) full held) m
  there_back = let r = kept h ((l, v) ∷ h) (lost (At l) full held) rest_sane agrees in r.1

  own_below : (n : ℕ) (m : Location) → same_location m l ≡ true → Le (total p n ((l, v) ∷ h) held m) full
  own_below n m e = on_again (total p n ((l, v) ∷ h) held m) (le-trans (le-is (sym (own_total n ((l, v) ∷ h) m e))) (positive-or (total p n ((l, v) ∷ h) (lost (At l) full held) m) (λ z. absurd (not_left m e (there_back m (n, z.holds)))) (λ z. z)))

  owned : (k : Heap) (m : Location) → same_location m l ≡ true → IsHeld p k held m
  owned k m e = held_directly p k held m (positive-le full-positive (le-trans own (le-is (ap (λ (l : Location). amount held (At l)) (sym (location_is m l e))))))

  not_null : (f : Name) → same_location (at_field 0 f) l ≡ true → ⊥
  not_null f e =
      let low : Le (amount held (At (at_field 0 f))) none = subst (λ (r : Holdings). Le (amount r (At (at_field 0 f))) none) (spread_bare p h held) (s.null 0 f) in
      not-positive full-positive (le-trans own (le-trans (le-is (ap (λ (l : Location). amount held (At l)) (sym (location_is (at_field 0 f) l e)))) low))

  pub written : Written p h ((l, v) ∷ h) held
  written = record {
    sane = record {
      typed = s.typed;
      debts = s.debts;
      grounded = there_sane.grounded;
      null = λ n f. null n f (same_location (at_field 0 f) l) refl;
      most = λ e n m. most n m (same_location m l) refl;
    };
    back = λ m z. back m (same_location m l) refl z;
    there = λ m z. there m (same_location m l) refl z;
  }
    where
      null : (n : ℕ) (f : Name) (b : Bool) → same_location (at_field 0 f) l ≡ b → Le (total p n ((l, v) ∷ h) held (at_field 0 f)) none
      null n f true e = absurd (not_null f e)
      null n f false e = le-trans (le-is (sym (other_total n ((l, v) ∷ h) (at_field 0 f) e))) (there_sane.null n f)

      most : (n : ℕ) (m : Location) (b : Bool) → same_location m l ≡ b → Le (total p n ((l, v) ∷ h) held m) full
      most n m true e = own_below n m e
      most n m false e = le-trans (le-is (sym (other_total n ((l, v) ∷ h) m e))) (there_sane.most refl n m)

      back : (m : Location) (b : Bool) → same_location m l ≡ b → IsHeld p ((l, v) ∷ h) held m → IsHeld p h held m
      back m true e z = owned h m e
      back m false e (n, z) = go (there_back m (n, (subst Positive (sym (other_total n ((l, v) ∷ h) m e)) (record { holds = z })).holds))
        where
          go : IsHeld p h (lost (At l) full held) m → IsHeld p h held m
          go (k, y) = (k, (subst Positive (other_total k h m e) (record { holds = y })).holds)

      there : (m : Location) (b : Bool) → same_location m l ≡ b → IsHeld p h held m → IsHeld p ((l, v) ∷ h) held m
      there m true e z = owned ((l, v) ∷ h) m e
      there m false e (n, z) = go (held_there p good kept h ((l, v) ∷ h) (lost (At l) full held) rest_sane agrees m (n, (subst Positive (sym (other_total n h m e)) (record { holds = z })).holds))
        where
          go : IsHeld p ((l, v) ∷ h) (lost (At l) full held) m → IsHeld p ((l, v) ∷ h) held m
          go (k, y) = (k, (subst Positive (other_total k ((l, v) ∷ h) m e) (record { holds = y })).holds)

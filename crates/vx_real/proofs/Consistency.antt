-- A state whose holdings are limited and are of locations alone can be; and of such what is held is held directly.
use Rattle.std.proofs.Common.{◌≡◌, ℕ, true, [], ◌∷◌, refl, sym, ap, subst}
use Rattle.vx_ast.specs.Syntax.{Program}
use Rattle.vx_frac.specs.Fractions.{Fraction, none, full, is_positive}
use Rattle.vx_meaning.specs.States as run
use Rattle.vx_meaning.specs.Consistent.{spread, total, IsHeld, IsConsistent, Changes}
use Rattle.vx_amounts.proofs.Amounts.{Le, Positive, le-refl, not-positive}
use Rattle.vx_sound.proofs.World.{at_field}
use Rattle.vx_sound.proofs.Fields.{OnlyLocations, HoldsFields}
use Rattle.vx_real.proofs.Backwards.{AgreeOn}

-- locations have nothing inside
spread_only : (p : Program) (n : ℕ) (h : run.Heap) (hs : run.Holdings) → OnlyLocations hs → spread p n h hs ≡ hs
spread_only p n h [] k = refl
spread_only p n h ((run.At l, q) ∷ rest) k = ap (λ r. (run.At l, q) ∷ r) (spread_only p n h rest k)
spread_only p n h ((run.Folded o, q) ∷ rest) k = absurd k

-- so the total is what is held
pub total_is : (p : Program) (n : ℕ) (h : run.Heap) (hs : run.Holdings) (l : run.Location) → OnlyLocations hs → total p n h hs l ≡ run.amount hs (run.At l)
total_is p n h hs l k = ap (λ x. run.amount x (run.At l)) (spread_only p n h hs k)

pub held_positive : (p : Program) (h : run.Heap) (hs : run.Holdings) (l : run.Location) → OnlyLocations hs → IsHeld p h hs l → Positive (run.amount hs (run.At l))
held_positive p h hs l k held = subst Positive (total_is p held.0 h hs l k) record { holds = held.1 }

-- no instance is held
none_folded : (hs : run.Holdings) (o : run.Instance) → OnlyLocations hs → run.amount hs (run.Folded o) ≡ none
none_folded [] o k = refl
none_folded ((run.At l, q) ∷ rest) o k = none_folded rest o k
none_folded ((run.Folded x, q) ∷ rest) o k = absurd k

pub can_be : (p : Program) (c : run.State) → HoldsFields c.holdings → IsConsistent p c
can_be p c k = record {
  supported = record {
    grounded = λ o pos. absurd (nothing (run.amount c.holdings (run.Folded o)) (none_folded c.holdings o k.only) pos);
    null = λ n f. (subst (λ x. Le x none) (sym (total_is p n c.heap c.holdings (at_field 0 f) k.only)) (k.limited.null f)).holds;
  };
  bounded = λ n l. (subst (λ x. Le x full) (sym (total_is p n c.heap c.holdings l k.only)) (k.limited.most refl l)).holds;
}
  where
    nothing : (q : Fraction) → q ≡ none → is_positive q ≡ true → ⊥
    nothing q e pos = not-positive (subst Positive e record { holds = pos }) (le-refl none)

-- a heap that agrees with what is held changes nothing of it
pub agree_changes : (p : Program) (c : run.State) (g : run.Heap) → OnlyLocations c.holdings → AgreeOn p c.holdings g c.heap → Changes p c g
agree_changes p c g k agrees l held = agrees l (held_positive p c.heap c.holdings l k held)

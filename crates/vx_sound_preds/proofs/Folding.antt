-- What taking a body does, and that a fold keeps the state one that can be.
use Rattle.std.proofs.Common.{◌≡◌, ℕ, Bool, cond, [], ◌∷◌, sym, ap, subst, true≢false}
use Rattle.vx_frac.specs.Fractions.{Fraction, none, full, product}
use Rattle.vx_ast.specs.Syntax.{Program}
use Rattle.vx_meaning.specs.States.{Heap, Holdings, Location, Instance, Resource, At, Folded, amount}
use Rattle.vx_meaning.specs.Flatten.{IsGrounded}
use Rattle.vx_meaning.specs.Consistent.{total, IsHeld}
use Rattle.vx_amounts.proofs.Amounts.{Le, Positive, le-trans, le-is, none-none, positive-le, not-positive, above-add, add-full}
use Rattle.vx_sound.proofs.Chunks.{location_same}
use Rattle.vx_sound_preds.specs.Covered.{Covered}
use Rattle.vx_sound_preds.specs.Bodies.{GoodBodies}
use Rattle.vx_amounts.proofs.Products.{product-full, product_positive, product-none}
use Rattle.vx_sound_preds.proofs.Totals.{weigh, weigh_none, weigh_more, weight, total_weighs, weight_sign}
use Rattle.vx_sound_preds.proofs.Grouped.{AreSingle, NoDebts, others, split, others_single, others_no_debts, others_amount, weigh_grows}
use Rattle.vx_sound_preds.proofs.Exchanging.{no_negatives}

-- what is held, where each instance held is grounded
pub record Stock (p : Program) (h : Heap) (hs : Holdings) : Type 0 where
  pub debts : NoDebts hs
  pub single : AreSingle hs
  pub grounded : (i : Instance) → Positive (amount hs (Folded i)) → IsGrounded p h i

-- Weights against what is held

no_weigh : (w : Resource → Fraction) (up : (r : Resource) → Le none (w r)) (hs : Holdings) → AreSingle hs → NoDebts hs → Le none (weigh w hs)
no_weigh w up hs si nd = le-trans (zeros hs) (weigh_grows (λ r. none) w up hs si nd)
  where
    zeros : (hs : Holdings) → Le none (weigh (λ r. none) hs)
    zeros [] = le-is (sym (weigh_none (λ r. none)))
    zeros (x ∷ xs) = le-trans (none-none (product-none x.1).back (zeros xs)) (le-is (sym (weigh_more (λ r. none) x xs)))

-- of each resource the amount times its weight is within the total
pub weighs_at_least : (w : Resource → Fraction) → ((r : Resource) → Le none (w r)) → (hs : Holdings) → AreSingle hs → NoDebts hs → (r : Resource) → Le (product (amount hs r) (w r)) (weigh w hs)
weighs_at_least w up hs si nd r =
    le-trans (above-add (product (amount hs r) (w r)) (weigh w (others r hs)) (no_weigh w up (others r hs) (others_single r hs si) (others_no_debts r hs si nd))) (split w r hs si).back

-- what has weight in an instance that is held is held
pub held_inside : (p : Program) (good : GoodBodies p) (h : Heap) (hs : Holdings) → Stock p h hs → (i : Instance) → Positive (amount hs (Folded i)) → (n : ℕ) (l : Location) → Positive (weight p h l n (Folded i)) → IsHeld p h hs l
held_inside p good h hs st i k n l z =
    let up = weight_sign p h l (no_negatives p h l good) n in
    let y = positive-le (product_positive k z) (le-trans (weighs_at_least (weight p h l n) up hs st.single st.debts (Folded i)) (total_weighs p h l n hs).back) in
    (n, y.holds)

module _ (p : Program) (good : GoodBodies p) (Good : Heap → Instance → Type 0) (covered : Covered p Good) where
  -- of a location that is wholly held directly, nothing is in an instance that is held; so a write leaves its tree
  pub owned_apart : (h : Heap) (hs : Holdings) → Stock p h hs → (l : Location) → Le full (amount hs (At l)) → (n : ℕ) → Le (total p n h hs l) full → (i : Instance) → Positive (amount hs (Folded i)) → Positive (weight p h l n (Folded i)) → ⊥
  owned_apart h hs st l own n most i k z =
      let w = weight p h l n in
      let up = weight_sign p h l (no_negatives p h l good) n in
      let r : Resource = At l in
      let rest = others r hs in
      let si = others_single r hs st.single in
      let nd = others_no_debts r hs st.single st.debts in
      let held : amount rest (Folded i) ≡ amount hs (Folded i) = others_amount r (Folded i) hs st.single (λ e. true≢false (sym e)) in
      let inside : Positive (weigh w rest) = positive-le (product_positive k z) (subst (λ (a : Fraction). Le (product a (w (Folded i))) (weigh w rest)) held (weighs_at_least w up rest si nd (Folded i))) in
      let one : w r ≡ full = ap (λ (b : Bool). cond b full none) (location_same l) in
      let whole : Le full (product (amount hs r) (w r)) = le-trans own (le-trans (product-full (amount hs r)).back (le-is (ap (product (amount hs r)) (sym one)))) in
      let small = add-full (product (amount hs r) (w r)) (weigh w rest) whole (le-trans (split w r hs st.single).back (le-trans (total_weighs p h l n hs).back most)) in
      not-positive inside small

-- Less of each resource holds less of each location; what is held of a state that can be, less of it too.
use Rattle.std.proofs.Common.{◌≡◌, ℕ, zero, suc, ◌≤◌, Bool, true, false, [], ◌∷◌, length, refl, sym, ◌∙◌, subst, arith, true≢false}
use Rattle.vx_frac.specs.Fractions.{Fraction, none, product}
use Rattle.vx_ast.specs.Syntax.{Program}
use Rattle.vx_meaning.specs.States.{Heap, Holdings, Location, Resource, Folded, same_resource, amount}
use Rattle.vx_meaning.specs.Consistent.{total, IsHeld}
use Rattle.vx_amounts.proofs.Amounts.{Le, le-refl, le-trans, le-is, none-none, add-mono, positive-le}
use Rattle.vx_amounts.proofs.Products.{product_comm, product_mono, product-none}
use Rattle.vx_sound_preds.specs.Bodies.{GoodBodies}
use Rattle.vx_sound_preds.proofs.Totals.{weigh, weigh_none, weigh_more, weight, weight_sign, total_weighs}
use Rattle.vx_sound_preds.proofs.Grouped.{AreSingle, NoDebts, split, others, others_single, others_no_debts, others_amount, others_none, shorter, weigh_grows}
use Rattle.vx_sound_preds.proofs.Exchanging.{no_negatives, held_rigid}
use Rattle.vx_sound_preds.proofs.Holding.{TypedAll, all_single, lower}
use Rattle.vx_runs.proofs.Followed.{Any, Sane, AtMost}

pub at_most_self : (hs : Holdings) → AtMost hs hs
at_most_self hs r si = le-refl (amount hs r)

pub at_most_both : (xs ys zs : Holdings) → AtMost xs ys → AtMost ys zs → AtMost xs zs
at_most_both xs ys zs h k r si = le-trans (h r si) (k r si)

module _ (w : Resource → Fraction) (up : (r : Resource) → Le none (w r)) where
  weigh_sign : (hs : Holdings) → AreSingle hs → NoDebts hs → Le none (weigh w hs)
  weigh_sign hs si nd = le-trans (zeros hs) (weigh_grows (λ r. none) w up hs si nd)
    where
      zeros : (hs : Holdings) → Le none (weigh (λ r. none) hs)
      zeros [] = le-is (sym (weigh_none (λ r. none)))
      zeros (x ∷ xs) = le-trans (none-none (product-none x.1).back (zeros xs)) (le-is (sym (weigh_more (λ r. none) x xs)))

  others_fewer : (r : Resource) (xs ys : Holdings) → AreSingle xs → AreSingle ys → AtMost xs ys → AtMost (others r xs) (others r ys)
  others_fewer r xs ys si sj le c sc = go (same_resource r c) refl
    where
      go : (b : Bool) → same_resource r c ≡ b → Le (amount (others r xs) c) (amount (others r ys) c)
      go true e = le-is (others_none r c xs si e sc ∙ sym (others_none r c ys sj e sc))
      go false e =
          let apart = λ (f : same_resource r c ≡ true). true≢false (sym f ∙ e) in
          subst (λ (a : Fraction). Le a (amount (others r ys) c)) (sym (others_amount r c xs si apart)) (subst (Le (amount xs c)) (sym (others_amount r c ys sj apart)) (le c sc))

  fewer_by : (k : ℕ) (xs ys : Holdings) → length xs ≤ k → AreSingle xs → AreSingle ys → NoDebts xs → NoDebts ys → AtMost xs ys → Le (weigh w xs) (weigh w ys)
  fewer_by k [] ys l si sj nd ne le = le-trans (le-is (weigh_none w)) (weigh_sign ys sj ne)
  fewer_by zero (x ∷ xs) ys l si sj nd ne le = absurd (none_of (length xs) l)
    where
      none_of : (m : ℕ) → suc m ≤ zero → ⊥
      none_of m e = omega arith
  fewer_by (suc k) (x ∷ xs) ys l si sj nd ne le =
      let r = x.0 in
      let first : Le (product (amount (x ∷ xs) r) (w r)) (product (amount ys r) (w r)) =
      subst (λ (a : Fraction). Le a (product (amount ys r) (w r))) (product_comm (w r) (amount (x ∷ xs) r)) (subst (Le (product (w r) (amount (x ∷ xs) r))) (product_comm (w r) (amount ys r)) (product_mono (w r) (up r) (le r si.0))) in
      let rest = fewer_by k (others r (x ∷ xs)) (others r ys) (shorter k x xs si l) (others_single r (x ∷ xs) si) (others_single r ys sj) (others_no_debts r (x ∷ xs) si nd) (others_no_debts r ys sj ne) (others_fewer r (x ∷ xs) ys si sj le) in
      le-trans (split w r (x ∷ xs) si).there (le-trans (add-mono first rest) (split w r ys sj).back)

  pub weigh_fewer : (xs ys : Holdings) → AreSingle xs → AreSingle ys → NoDebts xs → NoDebts ys → AtMost xs ys → Le (weigh w xs) (weigh w ys)
  weigh_fewer xs ys = fewer_by (length xs) xs ys (self (length xs))
    where
      self : (n : ℕ) → n ≤ n
      self n = omega arith

module _ (p : Program) (good : GoodBodies p) (h : Heap) where
  pub total_fewer : (n : ℕ) (l : Location) (xs ys : Holdings) → AreSingle xs → AreSingle ys → NoDebts xs → NoDebts ys → AtMost xs ys → Le (total p n h xs l) (total p n h ys l)
  total_fewer n l xs ys si sj nd ne le =
      let up = weight_sign p h l (no_negatives p h l good) n in
      le-trans (total_weighs p h l n xs).there (le-trans (weigh_fewer (weight p h l n) up xs ys si sj nd ne le) (total_weighs p h l n ys).back)

  -- what is held of less is held of more
  pub held_fewer : (xs ys : Holdings) → AreSingle xs → AreSingle ys → NoDebts xs → NoDebts ys → AtMost xs ys → (l : Location) → IsHeld p h xs l → IsHeld p h ys l
  held_fewer xs ys si sj nd ne le l (n, z) = (n, (positive-le (record { holds = z }) (total_fewer n l xs ys si sj nd ne le)).holds)

  pub sane_fewer : (xs ys : Holdings) → Sane p h ys → TypedAll p Any xs → NoDebts xs → AtMost xs ys → Sane p h xs
  sane_fewer xs ys sane typed nd le =
      let si = all_single p Any xs typed in
      lower p good Any true h ys xs sane typed nd (λ i z. sane.grounded i (positive-le z (le (Folded i) (held_rigid i xs si z))))
      (λ n l. (n, total_fewer n l xs ys si (all_single p Any ys sane.typed) nd sane.debts le))

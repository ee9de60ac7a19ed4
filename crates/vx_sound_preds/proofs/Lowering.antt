-- Whatever an assertion of a method takes, a state that can be stays one.
use Rattle.std.proofs.Common.{◌≡◌, ℕ, List, refl, subst}
use Rattle.std.specs.Prelude.{Ok}
use Rattle.vx_frac.specs.Fractions.{Fraction, none, sum, minus, product}
use Rattle.vx_ast.specs.Syntax.{Program, Assertion, Pure, Points, Both, Implied, Chosen, place_of}
use Rattle.vx_ast.specs.Syntax as syntax
use Rattle.vx_meaning.specs.Values.{Value, is_true}
use Rattle.vx_meaning.specs.States.{State, Heap, Holdings, Location, Resource, At, Folded, lost}
use Rattle.vx_meaning.specs.Consistent.{total}
use Rattle.vx_meaning.specs.Fits.{◌>>=◌, guard, Deeper, choose, fit, fit_all, field_part, instance_part, take, take_part}
use Rattle.vx_amounts.proofs.Amounts.{Le, Positive, Same, same-refl, same-trans, le-refl, le-trans, le-is, add-below, sum-minus, product_same, below-add}
use Rattle.vx_amounts.proofs.Products.{product_sign, product_dist, product_comm, product-none, positive_le}
use Rattle.vx_sound_preds.specs.Bodies.{AreRigid, GoodBodies}
use Rattle.vx_sound_preds.proofs.Fitting.{undo}
use Rattle.vx_sound_preds.proofs.Totals.{weigh, weigh_more, weight, weight_sign, total_weighs, same_is}
use Rattle.vx_sound_preds.proofs.Framing.{field_parts, instance_parts, ok_same, picked}
use Rattle.vx_sound_preds.proofs.Exchanging.{no_negatives}
use Rattle.vx_sound_preds.proofs.Folding.{Stock}
use Rattle.vx_sound_preds.proofs.Taking.{lost_stock, part_of}

-- less is held
pub record Lowers (p : Program) (h : Heap) (hs rest : Holdings) : Type 0 where
  pub stock : Stock p h rest
  pub less : (n : ℕ) (l : Location) → Le (total p n h rest l) (total p n h hs l)

pub lowers_both : (p : Program) (h : Heap) (a b c : Holdings) → Lowers p h a b → Lowers p h b c → Lowers p h a c
lowers_both p h a b c x y = record { stock = y.stock; less = λ n l. le-trans (y.less n l) (x.less n l) }

module _ (p : Program) (good : GoodBodies p) (q : Fraction) (scale : Positive q) (d : Deeper) (s : State) where
  -- the arguments of each instance are no amounts, as typing has it
  abbrev pub HasRigid : Assertion → Type 0
  HasRigid (Pure e) = Unit {0}
  HasRigid (Points at e f share) = Unit {0}
  HasRigid (syntax.Instance at i es share) = (vs : List Value) → fit_all p d s es ≡ Ok vs → AreRigid vs
  HasRigid (Both a b) = HasRigid a × HasRigid b
  HasRigid (Implied c a) = HasRigid a
  HasRigid (Chosen c a b) = HasRigid a × HasRigid b

  pub lost_less : (h : Heap) (hs : Holdings) (r : Resource) (x : Fraction) → Le none x → (n : ℕ) (l : Location) → Le (total p n h (lost r x hs) l) (total p n h hs l)
  lost_less h hs r x sign n l =
      let w = weight p h l n in
      let up = weight_sign p h l (no_negatives p h l good) n r in
      let z : Le (product (minus x) (w r)) none =
      le-trans (below-add (product (minus x) (w r)) (product_sign sign up))
      (same-trans (same-trans (same-trans (same_is refl) (sum_dist x (w r))) (product_same (sum-minus x) (same-refl (w r)))) (subst (λ (y : Fraction). Same y none) (product_comm (w r) none) (product-none (w r)))).there in
      le-trans (total_weighs p h l n (lost r x hs)).there
      (le-trans (le-is (weigh_more w (r, minus x) hs))
      (le-trans (add-below (weigh w hs) z) (total_weighs p h l n hs).back))
    where
      sum_dist : (x a : Fraction) → Same (sum (product x a) (product (minus x) a)) (product (sum x (minus x)) a)
      sum_dist x a = record { there = (product_dist x (minus x) a).back; back = (product_dist x (minus x) a).there }

  pub take_lowers : (a : Assertion) (hs rest : Holdings) → HasRigid a → Stock p s.heap hs → take p d s q a hs ≡ Ok rest → Lowers p s.heap hs rest
  take_lowers (Pure e) hs rest k st eq =
      let x = undo (fit p d s e) (λ v. guard (place_of e) (is_true v) >>= λ _. Ok hs) rest eq in
      let y = undo (guard (place_of e) (is_true x.it)) (λ _. Ok hs) rest x.then in
      subst (Lowers p s.heap hs) (ok_same hs rest y.then) record { stock = st; less = λ n l. le-refl (total p n s.heap hs l) }
  take_lowers (Points at e f share) hs rest k st eq =
      let x = undo (field_part p d s at e f share) (take_part p d s q at hs) rest eq in
      let y = field_parts p d s at e f share x.it x.is in
      let part = part_of p q scale d s at hs rest (At y.location) y.amount x.it y.is x.then in
      let sign : Le none (product q y.amount) = product_sign (positive_le scale) (record { holds = y.sign }) in
      subst (Lowers p s.heap hs) part.rest_is record { stock = lost_stock p q scale s.heap hs (At y.location) (product q y.amount) tt sign part.below st; less = lost_less s.heap hs (At y.location) (product q y.amount) sign }
  take_lowers (syntax.Instance at i es share) hs rest k st eq =
      let x = undo (instance_part p d s at i es share) (take_part p d s q at hs) rest eq in
      let y = instance_parts p d s at i es share x.it x.is in
      let r : Resource = Folded record { predicate = i; arguments = y.arguments } in
      let part = part_of p q scale d s at hs rest r y.amount x.it y.is x.then in
      let sign : Le none (product q y.amount) = product_sign (positive_le scale) (record { holds = y.sign }) in
      subst (Lowers p s.heap hs) part.rest_is record { stock = lost_stock p q scale s.heap hs r (product q y.amount) (k y.arguments y.arguments_are) sign part.below st; less = lost_less s.heap hs r (product q y.amount) sign }
  take_lowers (Both a b) hs rest k st eq =
      let x = undo (take p d s q a hs) (λ h. take p d s q b h) rest eq in
      let first = take_lowers a hs x.it k.0 st x.is in
      lowers_both p s.heap hs x.it rest first (take_lowers b x.it rest k.1 first.stock x.then)
  take_lowers (Implied c a) hs rest k st eq =
      let x = undo (fit p d s c) (λ v. choose (place_of c) v (take p d s q a hs) (Ok hs)) rest eq in
      picked {R = Lowers p s.heap hs rest} (place_of c) x.it (take p d s q a hs) (Ok hs) rest (λ e. take_lowers a hs rest k st e)
      (λ e. subst (Lowers p s.heap hs) (ok_same hs rest e) record { stock = st; less = λ n l. le-refl (total p n s.heap hs l) }) x.then
  take_lowers (Chosen c a b) hs rest k st eq =
      let x = undo (fit p d s c) (λ v. choose (place_of c) v (take p d s q a hs) (take p d s q b hs)) rest eq in
      picked {R = Lowers p s.heap hs rest} (place_of c) x.it (take p d s q a hs) (take p d s q b hs) rest (λ e. take_lowers a hs rest k.0 st e) (λ e. take_lowers b hs rest k.1 st e) x.then

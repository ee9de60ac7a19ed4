-- What fits has its value, what is applied by some fuel; so where an assertion names something, what is added by it is that.
use Rattle.std.proofs.Common.{◌≡◌, ℕ, ◌≤◌, Bool, true, false, cond, List, [], ◌++◌, Option, Some, None, refl, sym, ◌∙◌, ap, subst, arith}
use Rattle.std.specs.Prelude.{Ok, option_and_then}
use Rattle.std.proofs.lemmas.Option.{same_Some}
use Rattle.vx_frac.specs.Fractions.{Fraction, product}
use Rattle.vx_ast.specs.declared.Place.{Place}
use Rattle.vx_ast.specs.Syntax.{Program, place_of, Expr, Exprs, Assertion, Pure, Points, Both, Implied, Chosen}
use Rattle.vx_ast.specs.Syntax as syntax
use Rattle.vx_meaning.specs.Values.{Value, IntValue, BoolValue, RefValue, PermValue, is_true}
use Rattle.vx_meaning.specs.States.{State, Holdings, Instance, Resource, At, Folded, gained, with_holdings}
use Rattle.vx_meaning.specs.Evaluate as plain
use Rattle.vx_meaning.specs.Evaluate.{applications, value, values}
use Rattle.vx_meaning.specs.Flatten.{no_applications, location_entry, instance_entry}
use Rattle.vx_meaning.specs.Fits.{Checked, Deeper, choose, amount_of, fit, fit_all, field_part, instance_part, add, add_part, deeper}
use Rattle.vx_amounts.proofs.Amounts.{Positive}
use Rattle.vx_amounts.proofs.Products.{positive_le}
use Rattle.vx_sound.proofs.Fuel.{one_value, all_one_value}
use Rattle.vx_sound.proofs.Stripped.{fit_worth, all_fit_worth}
use Rattle.vx_sound_preds.specs.Asking.{asking_entries, IsAskingAmount, IsAsking}
use Rattle.vx_sound_preds.proofs.Asked.{above, held_entries}
use Rattle.vx_sound_preds.proofs.Fitting.{undo, step}
use Rattle.vx_sound_preds.proofs.Flats.{came}
use Rattle.vx_sound_preds.proofs.Framing.{field_parts, instance_parts, amount_same, ok_same}
use Rattle.vx_sound_preds.proofs.Adding.{added, added_append, location_entries, instance_entries}
use Rattle.vx_sound_funcs.specs.Firm.{firmly}
use Rattle.vx_sound_funcs.specs.Laws.{SpeakNow}
use Rattle.vx_sound_funcs.proofs.Fits.{fit_more, fit_all_more, firm_allows}

-- expressions have these values, what is applied by some fuel
abbrev pub HaveValues : Program → State → Exprs → List Value → Type 0
HaveValues p c es vs = (n : ℕ) × (values p (applications p n) c es ≡ Some vs)

-- what fits by d has its value by this fuel
pub record FitsWorth (p : Program) (d : Deeper) : Type 0 where
  pub fuel : ℕ
  pub one : (s : State) (e : Expr) (v : Value) → fit p d s e ≡ Ok v → value p (applications p fuel) s e ≡ Some v
  pub all : (s : State) (es : Exprs) (vs : List Value) → fit_all p d s es ≡ Ok vs → values p (applications p fuel) s es ≡ Some vs

pub firm_worth : (p : Program) → SpeakNow p → (n : ℕ) → FitsWorth p (firmly p n)
firm_worth p now n =
    let self : n ≤ n = omega arith in
    record {
      fuel = n;
      one = λ s e v eq. fit_worth p n s e v (fit_more p (firmly p n) (deeper p n) (firm_allows p now n n self) s e v eq);
      all = λ s es vs eq. all_fit_worth p n s es vs (fit_all_more p (firmly p n) (deeper p n) (firm_allows p now n n self) s es vs eq);
    }

pub deep_worth : (p : Program) (n : ℕ) → FitsWorth p (deeper p n)
deep_worth p n = record { fuel = n; one = λ s e v eq. fit_worth p n s e v eq; all = λ s es vs eq. all_fit_worth p n s es vs eq }

-- the side that is picked, for the check and for the entries
side : {R : Type 0} {B : Type 0} (at : Place) (v : Value) (x y : Checked State) (z w : Option B) (u : State) (b : B) →
    (x ≡ Ok u → z ≡ Some b → R) → (y ≡ Ok u → w ≡ Some b → R) → choose at v x y ≡ Ok u → plain.choose v z w ≡ Some b → R
side at (BoolValue true) x y z w u b h k e f = h e f
side at (BoolValue false) x y z w u b h k e f = k e f
side at (IntValue n) x y z w u b h k e f = cc
side at (RefValue r) x y z w u b h k e f = cc
side at (PermValue n) x y z w u b h k e f = cc

no_entries : (v : Value) (es : Holdings) → cond (is_true v) (Some []) None ≡ Some es → es ≡ []
no_entries v es e = go (is_true v) e
  where
    go : (b : Bool) → cond b (Some []) None ≡ Some es → es ≡ []
    go true e = sym (same_Some [] es e)
    go false e = cc

module _ (p : Program) (d : Deeper) (fits : FitsWorth p d) where
  -- what follows a value follows the one that fits
  pub follows_value : {B : Type 0} (n : ℕ) (s : State) (e : Expr) (v : Value) (f : Value → Option B) (b : B) → fit p d s e ≡ Ok v → option_and_then f (value p (applications p n) s e) ≡ Some b → f v ≡ Some b
  follows_value n s e v f b eq k =
      let x = came (value p (applications p n) s e) f b k in
      ap f (one_value p s e v x.it (fits.fuel, fits.one s e v eq) (n, x.is)) ∙ x.then

  pub follow_values : {B : Type 0} (n : ℕ) (s : State) (es : Exprs) (vs : List Value) (f : List Value → Option B) (b : B) → fit_all p d s es ≡ Ok vs → option_and_then f (values p (applications p n) s es) ≡ Some b → f vs ≡ Some b
  follow_values n s es vs f b eq k =
      let x = came (values p (applications p n) s es) f b k in
      ap f (all_one_value p s es vs x.it fits.fuel n (fits.all s es vs eq) x.is) ∙ x.then

  -- an amount is the same whatever is applied
  pub amount_is : (s : State) (share : Expr) (v : Value) (a : Fraction) (k : IsAskingAmount p share) → fit p d s share ≡ Ok v → amount_of v ≡ Some a → a ≡ k.amount
  amount_is s share v a k eq am = amount_same v a k.amount am (sym (fits.one s share v eq) ∙ k.value_is (applications p fits.fuel) s)

  pub share_is : (s : State) (share : Expr) (v : Value) (a : Fraction) → IsAskingAmount p share → fit p d s share ≡ Ok v → amount_of v ≡ Some a → value p no_applications s share ≡ Some (PermValue a)
  share_is s share v a k eq am = k.value_is no_applications s ∙ ap (λ (a : Fraction). Some (PermValue a)) (sym (amount_is s share v a k eq am))

  pub amount_above : (s : State) (share : Expr) (v : Value) (a : Fraction) → IsAskingAmount p share → fit p d s share ≡ Ok v → amount_of v ≡ Some a → Positive a
  amount_above s share v a k eq am = subst Positive (sym (amount_is s share v a k eq am)) (above k)

  -- what an assertion adds is what it names
  pub added_is : (q : Fraction) → Positive q → (a : Assertion) (s u : State) (n : ℕ) (es : Holdings) → IsAsking p a → asking_entries p (applications p n) s a ≡ Some es → add p d q a s ≡ Ok u → u ≡ with_holdings (added q es s.holdings) s
  unfolding added
  added_is q pos (Pure e) s u n es k en eq =
      let x = undo (fit p d s e) (λ _. Ok s) u eq in
      let y = follows_value n s e x.it (λ v. cond (is_true v) (Some []) None) es x.is en in
      subst (λ (es : Holdings). u ≡ with_holdings (added q es s.holdings) s) (sym (no_entries x.it es y)) (sym (ok_same s u x.then))
  added_is q pos (Points at e x share) s u n es k en eq =
      let b = undo (field_part p d s at e x share) (add_part p d q s) u eq in
      let y = field_parts p d s at e x share b.it b.is in
      let r = follows_value n s e y.receiver (λ r. option_and_then (location_entry x r) (value p no_applications s share)) es y.receiver_is en in
      let es_is = location_entries p q (positive_le pos) x y.receiver (PermValue y.amount) y.location y.amount es y.location_is refl (sym (step (location_entry x y.receiver) (PermValue y.amount) (share_is s share y.worth y.amount k.1 y.worth_is y.amount_is)) ∙ r) in
      let u_is = ap (λ (y : Resource × Fraction). with_holdings (gained y.0 (product q y.1) s.holdings) s) (ok_same {A = Resource × Fraction} (At y.location, y.amount) b.it y.is) ∙ ok_same (with_holdings (gained b.it.0 (product q b.it.1) s.holdings) s) u b.then in
      subst (λ (es : Holdings). u ≡ with_holdings (added q es s.holdings) s) (sym es_is) (sym u_is)
  added_is q pos (syntax.Instance at i xs share) s u n es k en eq =
      let b = undo (instance_part p d s at i xs share) (add_part p d q s) u eq in
      let y = instance_parts p d s at i xs share b.it b.is in
      let j : Instance = record { predicate = i; arguments = y.arguments } in
      let r = follow_values n s xs y.arguments (λ vs. option_and_then (instance_entry i vs) (value p no_applications s share)) es y.arguments_are en in
      let es_is = instance_entries p q (positive_le pos) i y.arguments (PermValue y.amount) y.amount es refl (sym (step (instance_entry i y.arguments) (PermValue y.amount) (share_is s share y.worth y.amount k.1 y.worth_is y.amount_is)) ∙ r) in
      let u_is = ap (λ (y : Resource × Fraction). with_holdings (gained y.0 (product q y.1) s.holdings) s) (ok_same {A = Resource × Fraction} (Folded j, y.amount) b.it y.is) ∙ ok_same (with_holdings (gained b.it.0 (product q b.it.1) s.holdings) s) u b.then in
      subst (λ (es : Holdings). u ≡ with_holdings (added q es s.holdings) s) (sym es_is) (sym u_is)
  added_is q pos (Both a b) s u n es k en eq =
      let x = undo (add p d q a s) (λ t. add p d q b t) u eq in
      let y = came (asking_entries p (applications p n) s a) (λ xs. option_and_then (λ ys. Some (xs ++ ys)) (asking_entries p (applications p n) s b)) es en in
      let z = came (asking_entries p (applications p n) s b) (λ ys. Some (y.it ++ ys)) es y.then in
      let middle : State = with_holdings (added q y.it s.holdings) s in
      let whole : added q z.it (added q y.it s.holdings) ≡ added q es s.holdings = sym (added_append q y.it z.it s.holdings) ∙ ap (λ (zs : Holdings). added q zs s.holdings) (same_Some (y.it ++ z.it) es z.then) in
      let first = added_is q pos a s x.it n y.it k.0 y.is x.is in
      let second = added_is q pos b middle u n z.it k.1 (held_entries p n (added q y.it s.holdings) s b k.1 ∙ z.is) (subst (λ (t : State). add p d q b t ≡ Ok u) first x.then) in
      second ∙ ap (λ (hs : Holdings). with_holdings hs s) whole
  added_is q pos (Implied c a) s u n es k en eq =
      let x = undo (fit p d s c) (λ v. choose (place_of c) v (add p d q a s) (Ok s)) u eq in
      side {R = u ≡ with_holdings (added q es s.holdings) s} (place_of c) x.it (add p d q a s) (Ok s) (asking_entries p (applications p n) s a) (Some []) u es
      (λ e g. added_is q pos a s u n es k.1 g e)
      (λ e g. subst (λ (es : Holdings). u ≡ with_holdings (added q es s.holdings) s) (same_Some [] es g) (sym (ok_same s u e)))
      x.then (follows_value n s c x.it (λ v. plain.choose v (asking_entries p (applications p n) s a) (Some [])) es x.is en)
  added_is q pos (Chosen c a b) s u n es k en eq =
      let x = undo (fit p d s c) (λ v. choose (place_of c) v (add p d q a s) (add p d q b s)) u eq in
      side {R = u ≡ with_holdings (added q es s.holdings) s} (place_of c) x.it (add p d q a s) (add p d q b s) (asking_entries p (applications p n) s a) (asking_entries p (applications p n) s b) u es
      (λ e g. added_is q pos a s u n es k.1 g e) (λ e g. added_is q pos b s u n es k.2 g e)
      x.then (follows_value n s c x.it (λ v. plain.choose v (asking_entries p (applications p n) s a) (asking_entries p (applications p n) s b)) es x.is en)

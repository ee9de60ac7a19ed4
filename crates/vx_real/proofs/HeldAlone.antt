-- What fits, and what an assertion takes, reads what is held alone: over heaps that agree with it, it is the same.
use Rattle.std.proofs.Common.{◌≡◌, ℕ, Bool, true, false, cond, ◌∷◌, Some, None, refl, ◌∙◌, ap}
use Rattle.std.specs.Prelude.{Ok}
use Rattle.vx_frac.specs.Fractions.{Fraction, none, is_positive, at_most}
use Rattle.vx_ast.specs.declared.Place.{Place}
use Rattle.vx_ast.specs.Syntax.{Name, Program, place_of, Expr, Number, Truth, Null, Part, Variable, Not, Operate, Divide, Connect, Choose, Read, Old, Apply, Unfolding, Exprs, NoMore, More, Assertion, Pure, Points, Instance, Both, Implied, Chosen}
use Rattle.vx_meaning.specs.Values.{Value, negated, operated, divided, is_true}
use Rattle.vx_meaning.specs.States as run
use Rattle.vx_meaning.specs.Fits.{Checked, ◌>>=◌, or_fail, guard, Deeper, Fits, FailsToFit, fit, fit_by, fit_all, field_part, take, take_by, take_part, readable, location_of, amount_of, deeper}
use Rattle.vx_meaning.specs.Fits as fits
use Rattle.vx_types.specs.FieldLanguage.{InFields, IsOfFields}
use Rattle.vx_types.specs.CallLanguage.{AreInFields}
use Rattle.vx_elements.proofs.Eventually.{eventually}
use Rattle.vx_real.proofs.Backwards.{AgreeOn, over}

module _ (p : Program) (d : Deeper) where
  -- these heaps agree with what is held, and with what was
  pub record Agree (c : run.State) (g o : run.Heap) : Type 0 where
    pub now : AgreeOn p c.holdings g c.heap
    pub before : AgreeOn p c.old_holdings o c.old_heap

  readable_same : (c : run.State) (g o : run.Heap) → Agree c g o → (l : run.Location) → readable p (over g o c) l ≡ readable p c l
  readable_same c g o a l = go (is_positive (run.amount c.holdings (run.At l))) (λ e. a.now l record { holds = e })
    where
      go : (b : Bool) → (b ≡ true → run.value_at p g l ≡ run.value_at p c.heap l) → cond b (Some (run.value_at p g l)) None ≡ cond b (Some (run.value_at p c.heap l)) None
      go true h = ap Some (h refl)
      go false h = refl

  pub fit_same : (e : Expr) → InFields e → (c : run.State) (g o : run.Heap) → Agree c g o → fit p d (over g o c) e ≡ fit p d c e
  fit_same (Number at n) k c g o a = refl
  fit_same (Truth at b) k c g o a = refl
  fit_same (Null at) k c g o a = refl
  fit_same (Part at n m) k c g o a = refl
  fit_same (Variable at x) k c g o a = refl
  fit_same (Not at e) k c g o a = λ i. fit_same e k c g o a i >>= λ v. or_fail at (negated v)
  fit_same (Operate at op x y) k c g o a = λ i. fit_same x k.0 c g o a i >>= λ v. fit_same y k.1 c g o a i >>= λ w. or_fail at (operated op v w)
  fit_same (Divide at op x y) k c g o a = λ i. fit_same x k.0 c g o a i >>= λ v. fit_same y k.1 c g o a i >>= λ w. or_fail at (divided op v w)
  fit_same (Connect at con x y) k c g o a = λ i. fit_same x k.0 c g o a i >>= λ v. fits.connected at con v (fit_same y k.1 c g o a i)
  fit_same (Choose at x y z) k c g o a = λ i. fit_same x k.0 c g o a i >>= λ v. fits.choose at v (fit_same y k.1 c g o a i) (fit_same z k.2 c g o a i)
  fit_same (Read at e f) k c g o a = λ i. fit_same e k c g o a i >>= λ r. or_fail at (location_of f r) >>= λ l. or_fail at (readable_same c g o a l i)
  fit_same (Old at e) k c g o a = fit_same e k (run.at_old c) o o record { now = a.before; before = a.before }
  fit_same (Apply at f es) k c g o a = absurd k
  fit_same (Unfolding at x es share e) k c g o a = absurd k

  pub fit_all_same : (es : Exprs) → AreInFields es → (c : run.State) (g o : run.Heap) → Agree c g o → fit_all p d (over g o c) es ≡ fit_all p d c es
  fit_all_same NoMore k c g o a = refl
  fit_all_same (More e es) k c g o a = λ i. fit_same e k.0 c g o a i >>= λ v. fit_all_same es k.1 c g o a i >>= λ vs. Ok (v ∷ vs)

  pub part_same : (at : Place) (e : Expr) (f : Name) (share : Expr) → InFields e → InFields share → (c : run.State) (g o : run.Heap) → Agree c g o → field_part p d (over g o c) at e f share ≡ field_part p d c at e f share
  part_same at e f share k l c g o a = λ i.
      fit_same e k c g o a i >>= λ r. fit_same share l c g o a i >>= λ v. or_fail at (location_of f r) >>= λ l. or_fail at (amount_of v) >>= λ q.
      guard at (at_most none q) >>= λ _. Ok (run.At l, q)

  pub take_same : (q : Fraction) (x : Assertion) → IsOfFields x → (c : run.State) (g o : run.Heap) → Agree c g o → (rest : run.Holdings) → take p d (over g o c) q x rest ≡ take p d c q x rest
  take_same q (Pure e) k c g o a rest = λ i. fit_same e k c g o a i >>= λ v. guard (place_of e) (is_true v) >>= λ _. Ok rest
  take_same q (Points at e f share) k c g o a rest = λ i. part_same at e f share k.0 k.1 c g o a i >>= take_part p d c q at rest
  take_same q (Instance at x es share) k c g o a rest = absurd k
  take_same q (Both x y) k c g o a rest = λ i. take_same q x k.0 c g o a rest i >>= λ h. take_same q y k.1 c g o a h i
  take_same q (Implied e x) k c g o a rest = λ i. fit_same e k.0 c g o a i >>= λ v. fits.choose (place_of e) v (take_same q x k.1 c g o a rest i) (Ok rest)
  take_same q (Chosen e x y) k c g o a rest = λ i. fit_same e k.0 c g o a i >>= λ v. fits.choose (place_of e) v (take_same q x k.1 c g o a rest i) (take_same q y k.2 c g o a rest i)

-- so over such heaps it fits, fails to fit and takes as before
module _ (p : Program) (c : run.State) (g o : run.Heap) (now : AgreeOn p c.holdings g c.heap) (before : AgreeOn p c.old_holdings o c.old_heap) where
  pub fit_over : (n : ℕ) (e : Expr) → InFields e → fit_by p n (over g o c) e ≡ fit_by p n c e
  fit_over n e k = fit_same p (deeper p n) e k c g o record { now = now; before = before }

  pub fits_over : (e : Expr) (v : Value) → InFields e → Fits p c e v → Fits p (over g o c) e v
  fits_over e v k f = eventually f (λ n h. fit_over n e k ∙ h)

  pub misfits_over : (e : Expr) (at : Place) → InFields e → FailsToFit p c e at → FailsToFit p (over g o c) e at
  misfits_over e at k f = eventually f (λ n h. fit_over n e k ∙ h)

  pub fit_all_over : (n : ℕ) (es : Exprs) → AreInFields es → fit_all p (deeper p n) (over g o c) es ≡ fit_all p (deeper p n) c es
  fit_all_over n es k = fit_all_same p (deeper p n) es k c g o record { now = now; before = before }

  pub part_over : (n : ℕ) (at : Place) (e : Expr) (f : Name) (share : Expr) → InFields e → InFields share → field_part p (deeper p n) (over g o c) at e f share ≡ field_part p (deeper p n) c at e f share
  part_over n at e f share k l = part_same p (deeper p n) at e f share k l c g o record { now = now; before = before }

  pub take_over : (n : ℕ) (q : Fraction) (x : Assertion) (rest : run.Holdings) → IsOfFields x → take_by p n (over g o c) q x rest ≡ take_by p n c q x rest
  take_over n q x rest k = take_same p (deeper p n) q x k c g o record { now = now; before = before } rest

-- What the parts of an expression come to, from where a run is.
use Rattle.std.proofs.Common.{◌≡◌, ℕ, List, ◌∷◌, refl, sym, ap}
use Rattle.vx_meaning.specs.Values.{Value}
use Rattle.vx_meaning.specs.States.{State}
use Rattle.vx_resolved.specs.Resolved.{expr, exprs}
use Rattle.vx_resolved.specs.declared.Expr.{Expr}
use Rattle.vx_resolved.specs.declared.Exprs.{Exprs}
use Rattle.vx_run.specs.Evaluated.{Reading}
use Rattle.vx_run.specs.Going.{Going, ◌>>=◌, gives}
use Rattle.vx_run.specs.Configs.{Setting, Config, with_values, with_lists, put_value, put_list}
use Rattle.vx_run.specs.Frames.{before}
use Rattle.vx_run.specs.Pending.{evaluate, evaluate_all}
use Rattle.vx_run.specs.declared.blame.Blame.{Blame}
use Rattle.vx_run.proofs.Steps.{of_one, of_two}

-- the expression is this one
pub at_form : (t : Setting) (n : ℕ) (r : Reading) (s : State) (x y : Expr) → x ≡ y → evaluate t n r s (expr y) ≡ evaluate t n r s (expr x)
at_form t n r s x y e = ap (λ (z : Expr). evaluate t n r s (expr z)) (sym e)

-- the value is this one
pub given_same : (u v : Value) → u ≡ v → (let g : Going ℕ Value = gives u in g) ≡ gives v
given_same u v e = ap (λ (x : Value). let g : Going ℕ Value = gives x in g) e

module _ (b : Blame) (c : Config) where
  pub value_of_one : (m : Going ℕ Value) (f : Value → Going ℕ Value) (g k : Config → Going ℕ Config) → ((v : Value) → g (with_values (v ∷ c.values) c) ≡ put_value b c (f v)) →
      (put_value b c m >>= before g k) ≡ (put_value b c (m >>= f) >>= k)
  value_of_one m f g k h = of_one b m (λ v. with_values (v ∷ c.values) c) f (λ v. with_values (v ∷ c.values) c) g k h

  -- the second is evaluated in the same state
  pub value_of_two : (m : Going ℕ Value) (n : State → Going ℕ Value) (f : Value → Value → Going ℕ Value) (g k : Config → Going ℕ Config) →
      ((v w : Value) → g (with_values (w ∷ v ∷ c.values) c) ≡ put_value b c (f v w)) →
      (put_value b c m >>= before (λ d. put_value b d (n d.state)) (before g k)) ≡ (put_value b c (m >>= λ v. n c.state >>= f v) >>= k)
  value_of_two m n f g k h =
      of_two b m (n c.state) (λ v. with_values (v ∷ c.values) c) (λ v w. with_values (w ∷ v ∷ c.values) c) f (λ v. with_values (v ∷ c.values) c) (λ d. put_value b d (n d.state)) g k (λ v. refl) h

  -- a function at its arguments
  pub value_of_list : (m : Going ℕ (List Value)) (f : List Value → Going ℕ Value) (g k : Config → Going ℕ Config) → ((vs : List Value) → g (with_lists (vs ∷ c.lists) c) ≡ put_value b c (f vs)) →
      (put_list b c m >>= before g k) ≡ (put_value b c (m >>= f) >>= k)
  value_of_list m f g k h = of_one b m (λ vs. with_lists (vs ∷ c.lists) c) f (λ v. with_values (v ∷ c.values) c) g k h

  -- a value before a list of them
  pub list_of_both : (m : Going ℕ Value) (n : State → Going ℕ (List Value)) (g k : Config → Going ℕ Config) →
      ((v : Value) (vs : List Value) → g (with_lists (vs ∷ c.lists) (with_values (v ∷ c.values) c)) ≡ gives (with_lists ((v ∷ vs) ∷ c.lists) c)) →
      (put_value b c m >>= before (λ d. put_list b d (n d.state)) (before g k)) ≡ (put_list b c (m >>= λ v. n c.state >>= λ vs. gives (v ∷ vs)) >>= k)
  list_of_both m n g k h =
      of_two b m (n c.state) (λ v. with_values (v ∷ c.values) c) (λ v vs. with_lists (vs ∷ c.lists) (with_values (v ∷ c.values) c)) (λ v vs. gives (v ∷ vs)) (λ vs. with_lists (vs ∷ c.lists) c)
      (λ d. put_list b d (n d.state)) g k (λ v. refl) h

-- What goes on one level deeper.
use Rattle.std.proofs.Common.{◌≡◌, ◌≢◌, ℕ, zero, suc, ◌-◌, List, Option, Some, None, Bool, true, false, Result, Ok, Err, refl, sym, ◌∙◌, ap, arith}
use Rattle.vx_ast.specs.declared.Place.{Place}
use Rattle.vx_ast.specs.Syntax.{Name, Function, Assertion, Predicate, function_named, predicate_named}
use Rattle.vx_frac.specs.Fractions.{Fraction, is_positive}
use Rattle.vx_meaning.specs.Values.{Value, IntValue, BoolValue, RefValue, PermValue}
use Rattle.vx_meaning.specs.States.{State, Holdings, Instance, Folded, bind, with_store, with_holdings}
use Rattle.vx_meaning.specs.Fits.{amount_of}
use Rattle.vx_run.specs.Going.{Going, Outcome, Supply, Failed, Running, ◌>>=◌, continued, gives, expect, require}
use Rattle.vx_run.specs.Widths.{within_128_bits, less}
use Rattle.vx_run.specs.Evaluated.{Reading, Permitted, Free, add, exchange}
use Rattle.vx_run.specs.Blame.{counted}
use Rattle.vx_run.specs.Configs.{Setting}
use Rattle.vx_run.specs.Pending.{deeper_by, applied, share_of}
use Rattle.vx_run.specs.declared.blame.Blame.{Blame}
use Rattle.vx_run.specs.declared.blame.Blame.TheVariants as blame

-- a run that goes on counts as one
pub still_running : (b : Blame) → counted b Running ≡ Running
still_running blame.Itself = refl
still_running (blame.Fails at) = refl
still_running (blame.Stops at) = refl

pub applied_at : (t : Setting) (n : ℕ) (r : Reading) (at : Place) (f : Name) (vs : List Value) (s : State) → n ≢ 0 →
    (deeper_by t n).applied r at f vs s ≡ (expect (function_named t.program f) (Failed at) >>= λ g. applied t (n - 1) r g (with_store (bind g.parameters vs) s))
applied_at t zero r at f vs s h = absurd (h refl)
applied_at t (suc m) Permitted at f vs s h =
    let e : m ≡ suc m - 1 = omega arith in
    ap (λ (k : ℕ). expect (function_named t.program f) (Failed at) >>= λ g. applied t k Permitted g (with_store (bind g.parameters vs) s)) e
applied_at t (suc m) Free at f vs s h =
    let e : m ≡ suc m - 1 = omega arith in
    ap (λ (k : ℕ). expect (function_named t.program f) (Failed at) >>= λ g. applied t k Free g (with_store (bind g.parameters vs) s)) e

pub opened_at : (t : Setting) (n : ℕ) (at : Place) (i : Instance) (q : Fraction) (s : State) → n ≢ 0 →
    (deeper_by t n).opened at i q s ≡ exchange t.program within_128_bits (deeper_by t (n - 1)) at i q s
opened_at t zero at i q s h = absurd (h refl)
opened_at t (suc m) at i q s h =
    let e : m ≡ suc m - 1 = omega arith in
    ap (λ (k : ℕ). exchange t.program within_128_bits (deeper_by t k) at i q s) e

-- an amount above none, before what follows
module _ {A : Type 0} (at : Place) (f : Fraction → Going ℕ A) where
  share_then : (q : Fraction) (b : Bool) → ((gives {S = ℕ} q >>= λ r. require b (Failed at) >>= λ _. gives r) >>= f) ≡ (gives {S = ℕ} q >>= λ r. require b (Failed at) >>= λ _. f r)
  share_then q true = refl
  share_then q false = refl

  pub share_first : (v : Value) → (share_of at v >>= f) ≡ (expect (amount_of v) (Failed at) >>= λ q. require (is_positive q) (Failed at) >>= λ _. f q)
  share_first (PermValue q) = share_then q (is_positive q)
  share_first (IntValue z) = refl
  share_first (BoolValue b) = refl
  share_first (RefValue r) = refl

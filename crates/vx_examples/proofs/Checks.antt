-- Runs of one statement, and checks whose answer is known.
use Rattle.std.proofs.Common.{◌≡◌, ℕ, zero, suc, ◌≤◌, sym, ◌∙◌, subst, refl, arith}
use Rattle.std.specs.Prelude.{Ok, Err}
use Rattle.vx_ast.specs.declared.Place.{Place}
use Rattle.vx_meaning.specs.Fits.{Checked, Eventually}
use Rattle.vx_meaning.specs.Outcomes.{Outcome, Outcomes, Ends, FailsAt, Stops, ends, fails, checked, passes, refused, and_then, goes_on, is_over}

-- from one unit of fuel on, and from two
pub from_one : {P : ℕ → Type 0} → ((n : ℕ) → P (suc n)) → Eventually P
from_one {P = P} h = (1, λ n. above n) where
  above : (n : ℕ) → 1 ≤ n → P n
  above zero le = absurd (omega arith)
  above (suc n) le = h n

pub from_two : {P : ℕ → Type 0} → ((n : ℕ) → P (suc (suc n))) → Eventually P
from_two {P = P} h = (2, λ n. above n) where
  above : (n : ℕ) → 2 ≤ n → P n
  above zero le = absurd (omega arith)
  above (suc zero) le = absurd (omega arith)
  above (suc (suc n)) le = h n

ok_is : {A : Type 0} (a b : A) → (let x : Checked A = Ok a in x) ≡ Ok b → a ≡ b
ok_is a b e = cc

err_is : {A : Type 0} (a b : Place) → (let x : Checked A = Err a in x) ≡ Err b → a ≡ b
err_is a b e = cc

not_both : {A : Type 0} {R : Type 0} (a : A) (at : Place) → (let x : Checked A = Ok a in x) ≡ Err at → R
not_both a at e = cc

-- a check that gives a, with two units of fuel or more
pub only_ok : {A : Type 0} (check : ℕ → Checked A) (a : A) (rest : A → Outcomes) (o : Outcome) →
    ((n : ℕ) → check (suc (suc n)) ≡ Ok a) → checked check rest o → rest a o
only_ok check a rest o h (passes b e r) =
    subst (λ c. rest c o) (sym (ok_is a b (sym (h e.0) ∙ e.1 (suc (suc e.0)) (omega arith)))) r
only_ok check a rest o h (refused at e r) = not_both a at (sym (h e.0) ∙ e.1 (suc (suc e.0)) (omega arith))

-- a check that is refused
pub only_err : {A : Type 0} (check : ℕ → Checked A) (at : Place) (rest : A → Outcomes) (o : Outcome) →
    ((n : ℕ) → check (suc (suc n)) ≡ Err at) → checked check rest o → fails at o
only_err check at rest o h (passes b e r) = not_both b at (sym (e.1 (suc (suc e.0)) (omega arith)) ∙ h e.0)
only_err check at rest o h (refused other e r) =
    subst (λ p. fails p o) (sym (err_is at other (sym (h e.0) ∙ e.1 (suc (suc e.0)) (omega arith)))) r

-- a block of one statement
pub single : {first : Outcomes} (o : Outcome) → and_then first ends o → first o
single {first = first} (Ends t) (goes_on s c r) = subst (λ u. first (Ends u)) (sym r) c
single (FailsAt at) (goes_on s c r) = absurd r
single Stops (goes_on s c r) = absurd r
single (Ends t) (is_over h c) = c
single (FailsAt at) (is_over h c) = c
single Stops (is_over h c) = c

pub alone : {first : Outcomes} (o : Outcome) → first o → and_then first ends o
alone (Ends t) c = goes_on t c refl
alone (FailsAt at) c = is_over tt c
alone Stops c = is_over tt c

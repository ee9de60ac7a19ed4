-- Permissions that are found and taken, and what a part of a run tells of what follows.
use Rattle.std.proofs.Common.{◌≡◌, ℕ, Bool, true, false, not, Result, Ok, Err, refl, sym, ◌∙◌, ap, ap₂, subst}
use Rattle.vx_ast.specs.declared.Place.{Place}
use Rattle.vx_frac.specs.declared.Frac.{Frac}
use Rattle.vx_frac.specs.Fraction.{fraction}
use Rattle.vx_frac.specs.Fractions.{Fraction, none, lowest, at_most, is_below}
use Rattle.vx_frac.proofs.Reduced.{lowest_fraction}
use Rattle.vx_amounts.proofs.Amounts.{below_is}
use Rattle.vx_meaning.specs.Values.{Value, IntValue, BoolValue, RefValue, PermValue}
use Rattle.vx_meaning.specs.Fits.{amount_of}
use Rattle.vx_run.specs.Going.{Going, Outcome, Supply, ◌>>=◌, continued, gives, ends_with, require, expect, Failed}
use Rattle.vx_run.specs.Blame.{within, ended_within, counted}
use Rattle.vx_meaning.specs.States.{State}
use Rattle.vx_run.specs.Configs.{Config, in_state, put_state}
use Rattle.vx_run.specs.Frames.{Come, Follows}
use Rattle.vx_run.specs.Fillings.{TellsFrom}
use Rattle.vx_run.specs.Holding.{Tells, Ends, IsBlamed}
use Rattle.vx_run.specs.Visits.{came, amount_at}
use Rattle.vx_run.specs.declared.halt.Halt.{Halt}
use Rattle.vx_run.specs.declared.halt.Halt.TheVariants as halt
use Rattle.vx_run.specs.declared.outcome.Whole.{Whole}
use Rattle.vx_run.specs.declared.blame.Blame.{Blame}
use Rattle.vx_run.proofs.Totals.{at_most_lowest}

-- an amount that is found, and what is made of it
pub amount_then : {B : Type 0} (at : Place) (w : Value) (f : Fraction → B) →
    (amount_at at w >>= λ q. gives (f q)) ≡ (expect (amount_of w) (Failed at) >>= λ q. require (at_most none q) (Failed at) >>= λ u. gives (f q))
amount_then {B} at (PermValue q) f = go (at_most none q)
  where
    go : (b : Bool) → ((require b (Failed at) >>= λ u. gives q) >>= λ r. (let g : Going ℕ B = gives (f r) in g)) ≡ (require b (Failed at) >>= λ u. gives (f q))
    go true = refl
    go false = refl
amount_then at (IntValue z) f = refl
amount_then at (BoolValue b) f = refl
amount_then at (RefValue r) f = refl

pub amount_is : {B : Type 0} (at : Place) (w : Value) (x : Result Frac Whole) (q : Frac) (f : Fraction → B) → came fraction x ≡ amount_at at w → x ≡ Ok q →
    (let g : Going ℕ B = gives (f (fraction q)) in g) ≡ (expect (amount_of w) (Failed at) >>= λ r. require (at_most none r) (Failed at) >>= λ u. gives (f r))
amount_is {B} at w x q f e i = ap (λ (m : Going ℕ Fraction). m >>= λ r. (let g : Going ℕ B = gives (f r) in g)) (ap (came fraction) (sym i) ∙ e) ∙ amount_then at w f

pub amount_ends : {B : Type 0} (at : Place) (w : Value) (x : Result Frac Whole) (end : Whole) (f : Fraction → B) → came fraction x ≡ amount_at at w → x ≡ Err end →
    (came f (Err end)) ≡ (expect (amount_of w) (Failed at) >>= λ r. require (at_most none r) (Failed at) >>= λ u. gives (f r))
amount_ends {B} at w x end f e i = ap (λ (m : Going ℕ Fraction). m >>= λ r. (let g : Going ℕ B = gives (f r) in g)) (ap (came fraction) (sym i) ∙ e) ∙ amount_then at w f

-- an end is that of what follows too
pub tells_end : {A B C D : Type 0} (f : A → C) (g : B → D) (x : Halt) (m : Going ℕ C) (k : C → Going ℕ D) → Tells f (Err x) m → Tells g (Err x) (m >>= k)
tells_end f g (halt.Over end) m k e = ap (λ n. n >>= k) e
tells_end f g halt.Want m k e = tt

pub tells_then : {B C D : Type 0} (g : B → D) (x : Result B Halt) (m : Going ℕ C) (c : C) (k : C → Going ℕ D) → (let n : Going ℕ C = gives c in n) ≡ m → Tells g x (k c) → Tells g x (m >>= k)
tells_then g x m c k e h = subst (λ n. Tells g x (n >>= k)) e h

-- enough is there
pub enough : (f b : Frac) (t : Fraction) → fraction f ≡ lowest t → at_most (fraction b) t ≡ not (is_below (fraction f) (fraction b))
enough f b t e =
    at_most_lowest (fraction b) t ∙ ap₂ at_most (lowest_fraction b) (sym e) ∙ twice (at_most (fraction b) (fraction f)) ∙ ap not (sym (below_is (fraction f) (fraction b)))
  where
    twice : (b : Bool) → b ≡ not (not b)
    twice true = refl
    twice false = refl

-- no more than can be
pub bounded : (m f : Frac) (t : Fraction) → fraction f ≡ lowest t → at_most t (fraction m) ≡ not (is_below (fraction m) (fraction f))
bounded m f t e =
    at_most_lowest t (fraction m) ∙ ap₂ at_most (sym e) (lowest_fraction m) ∙ twice (at_most (fraction f) (fraction m)) ∙ ap not (sym (below_is (fraction m) (fraction f)))
  where
    twice : (b : Bool) → b ≡ not (not b)
    twice true = refl
    twice false = refl

pub tells_from_end : {A B C D : Type 0} (f : A → C) (g : B → D) (x : Halt) (m : Going ℕ C) (k : C → Going ℕ D) (l j : Supply ℕ) → Tells f (Err x) m → TellsFrom g (Err x) j ((m >>= k) l)
tells_from_end f g (halt.Over end) m k l j e = ap (λ n. (n >>= k) l) e
tells_from_end f g halt.Want m k l j e = tt

-- an end within something, of what follows it
pub ends_follow : (x : Halt) (new : Come) (m : Come) → Ends x m → Follows (Err x) new m
ends_follow (halt.Over end) new m e = e
ends_follow halt.Want new m e = tt

pub tells_ends : {A B : Type 0} (f : A → B) (x : Halt) (m : Going ℕ B) (l : Supply ℕ) → Tells f (Err x) m → Ends x (m l)
tells_ends f (halt.Over end) m l e = ap (λ n. n l) e
tells_ends f halt.Want m l e = tt

pub tells_from_ends : {A B : Type 0} (f : A → B) (x : Halt) (j : Supply ℕ) (m : Result (B × Supply ℕ) Outcome) → TellsFrom f (Err x) j m → Ends x m
tells_from_ends f (halt.Over end) j m e = e
tells_from_ends f halt.Want j m e = tt

pub ends_on : {A B : Type 0} (x : Halt) (m : Result (A × Supply ℕ) Outcome) (k : A → Going ℕ B) → Ends x m → Ends x (continued m k)
ends_on (halt.Over end) m k e = ap (λ n. continued n k) e
ends_on halt.Want m k e = tt

-- an end of something within a blame, and of what follows it
pub blamed_then : {A B : Type 0} (x y : Halt) (b : Blame) → IsBlamed b x y → (m : Going ℕ A) (f : A → Going ℕ B) (l : Supply ℕ) → Ends x (m l) → Ends y ((within b m >>= f) l)
blamed_then {B = B} (halt.Over end) (halt.Over other) b q m f l e =
    ap (λ (o : Outcome). let r : Result (B × Supply ℕ) Outcome = Err o in r) q ∙ ap (λ n. continued (ended_within b n) f) e
blamed_then halt.Want halt.Want b q m f l e = tt
blamed_then (halt.Over end) halt.Want b q m f l e = absurd q
blamed_then halt.Want (halt.Over other) b q m f l e = absurd q

-- what is put behind it, in one step or two
pub put_after : {A : Type 0} (b : Blame) (c : Config) (m : Going ℕ A) (f : A → State) → put_state b c (m >>= λ a. gives (f a)) ≡ (within b m >>= λ a. gives (in_state (f a) c))
put_after {A = A} b c m f = λ i l. go (m l) i
  where
    go : (n : Result (A × Supply ℕ) Outcome) →
        continued (ended_within b (continued n (λ a. gives (f a)))) (λ s. gives (in_state s c)) ≡ continued (ended_within b n) (λ a. gives (in_state (f a) c))
    go (Ok (a, j)) = refl
    go (Err o) = refl

pub put_then : {A : Type 0} (b : Blame) (c : Config) (m : Going ℕ A) (f : A → Going ℕ State) → put_state b c (m >>= f) ≡ (within b m >>= λ a. put_state b c (f a))
put_then {A = A} b c m f = λ i l. go (m l) i
  where
    go : (n : Result (A × Supply ℕ) Outcome) →
        continued (ended_within b (continued n f)) (λ s. gives (in_state s c)) ≡ continued (ended_within b n) (λ a. put_state b c (f a))
    go (Ok (a, j)) = refl
    go (Err o) = refl

-- How a run with choices and steps goes on, and how it ends.
use Rattle.std.specs.Prelude.{ℕ, zero, suc, Bool, true, false, Option, Some, None, Result, Ok, Err, List, [], ◌∷◌}
use Rattle.vx_ast.specs.declared.Place.{Place}
use Rattle.vx_ast.specs.declared.ValueType.{ValueType}
use Rattle.vx_ast.specs.Syntax.{Declaration}
use Rattle.vx_frac.specs.declared.Op.{Op}
use Rattle.vx_frac.specs.Fractions.{Fraction}
use Rattle.vx_meaning.specs.Values.{Value}
use Rattle.vx_run.specs.Draws.{Choosing}

pub data Outcome : Type 0 where
  Ended : Outcome
  Stopped : Place → Outcome
  Failed : Place → Outcome
  -- a step is due, and none is left
  Running : Outcome
  -- this operation on these two leaves the width
  Wide : Place → Op → Fraction → Fraction → Outcome
  -- a value is to be chosen, and no choice is left
  Unchosen : Outcome

-- what a run lives on: its choices, and the steps that are left
pub record Supply (S : Type 0) : Type 0 where
  pub source : S
  pub steps : ℕ

-- a part of a run: it gives something and leaves a supply, or the run is over with an outcome
abbrev pub Going : Type 0 → Type 0 → Type 0
Going S A = Supply S → Result (A × Supply S) Outcome

abbrev pub gives : {S A : Type 0} → A → Going S A
gives a l = Ok (a, l)

abbrev pub ends_with : {S A : Type 0} → Outcome → Going S A
ends_with o l = Err o

abbrev pub continued : {S A B : Type 0} → Result (A × Supply S) Outcome → (A → Going S B) → Result (B × Supply S) Outcome
continued (Ok (a, l)) f = f a l
continued (Err o) f = Err o

infixl 10 ◌>>=◌
abbrev pub ◌>>=◌ : {S A B : Type 0} → Going S A → (A → Going S B) → Going S B
m >>= f = λ l. continued (m l) f

abbrev pub when : {S A : Type 0} → Bool → Going S A → Going S A → Going S A
when true a b = a
when false a b = b

-- it holds, or the run is over
abbrev pub require : {S : Type 0} → Bool → Outcome → Going S (Unit {0})
require true o = gives tt
require false o = ends_with o

-- it is there, or the run is over
abbrev pub expect : {S A : Type 0} → Option A → Outcome → Going S A
expect (Some a) o = gives a
expect None o = ends_with o

module _ {S A : Type 0} where
  -- a failure within this counts as that outcome
  abbrev pub failing_as : Outcome → Going S A → Going S A
  failing_as o m = λ l. turned_to (m l) where
    turned_to : Result (A × Supply S) Outcome → Result (A × Supply S) Outcome
    turned_to (Err (Failed at)) = Err o
    turned_to r = r

module _ {S : Type 0} where
  -- a step is taken
  abbrev pub step : Going S (Unit {0})
  step = λ l. by l.steps l.source where
    by : ℕ → S → Result (Unit {0} × Supply S) Outcome
    by zero s = Err Running
    by (suc n) s = Ok (tt, record { source = s; steps = n })

  -- a value of this type is chosen
  abbrev pub chosen : Choosing S → ValueType → Going S Value
  chosen c t = λ l. by (c.choose t l.source) l.steps where
    by : Option (Value × S) → ℕ → Result (Value × Supply S) Outcome
    by None n = Err Unchosen
    by (Some (v, s)) n = Ok (v, record { source = s; steps = n })

  -- a value for each declaration, in order
  abbrev pub chosen_for : Choosing S → List Declaration → Going S (List Value)
  chosen_for c [] = gives []
  chosen_for c (d ∷ ds) = chosen c d.of >>= λ v. chosen_for c ds >>= λ vs. gives (v ∷ vs)

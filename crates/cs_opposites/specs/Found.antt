-- What is found among assertions, by a list of their places.
use Rattle.std.specs.Prelude.{◌≡◌, ℕ, false, List, length, Option, Some, None}
use Rattle.vx_terms.specs.Terms.{Term, Truth, Not}
use Rattle.cs_certificate.specs.Certificate.{At, Contains}
use Rattle.cs_numbers.specs.Numbering.{place}
use Rattle.cs_opposites.specs.declared.find.Opposites.{Opposites}
use Rattle.cs_opposites.specs.declared.find.Opposites.TheVariants.{False, Both}
use Rattle.cs_opposites.specs.Opposites.{HasOpposites}

abbrev pub place_in : Option (Option ℕ) → Option ℕ
place_in None = None
place_in (Some p) = p

-- by number of a term the place of an assertion that is the term; all assertions are entered
pub record AreEntered (terms assertions : List Term) (places : List (Option ℕ)) : Type 0 where
  pub count : length places ≡ length terms
  pub each : (n p : ℕ) → At places n (Some p) → (t : Term) × (place terms t ≡ Some n) × At assertions p t
  pub every : (t : Term) → Contains assertions t → (n : ℕ) × (p : ℕ) × (place terms t ≡ Some n) × At places n (Some p)

-- the place is that of an assertion which is the term; without one there is none
abbrev pub IsPlaced : List Term → Term → Option ℕ → Type 0
IsPlaced assertions t (Some p) = At assertions p t
IsPlaced assertions t None = ¬ (Contains assertions t)

-- these are opposites
abbrev pub AreOpposites : List Term → Opposites → Type 0
AreOpposites assertions (False p) = At assertions p (Truth false)
AreOpposites assertions (Both p q) = (t : Term) × At assertions p t × At assertions q (Not t)

-- the term is neither `false` nor the negation of an assertion
pub record IsUnopposed (assertions : List Term) (t : Term) : Type 0 where
  pub truth : ¬ (t ≡ Truth false)
  pub part : (u : Term) → t ≡ Not u → ¬ (Contains assertions u)

-- what the term makes with the assertions
abbrev pub Opposes : List Term → Term → Option Opposites → Type 0
Opposes assertions t (Some o) = AreOpposites assertions o
Opposes assertions t None = IsUnopposed assertions t

-- what is found among the assertions
abbrev pub IsFound : List Term → Option Opposites → Type 0
IsFound assertions (Some o) = AreOpposites assertions o
IsFound assertions None = ¬ (HasOpposites assertions)

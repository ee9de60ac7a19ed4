-- The steps of a certificate as they are written, and what the types of src/ stand for.
use Rattle.std.specs.Prelude.{ℕ, ℤ, List, map}
use Rattle.vx_frac.specs.Fractions.{Fraction}
use Rattle.vx_frac.specs.Fraction.{fraction}
use Rattle.vx_sexp.specs.declared.token.Token.{Token}
use Rattle.cs_reader.specs.declared.step.Literal.{Literal}
use Rattle.cs_reader.specs.declared.step.Certificate.{Certificate as Certificate'}
use Rattle.cs_reader.specs.declared.step.Step.{Step as Step'}
use Rattle.cs_reader.specs.declared.step.Step.TheVariants as steps'

pub data Step : Type 0 where
  Input : ℕ → Step
  NewTerm : List Token → Step
  Define : (term row : ℕ) → Step
  Pick : (term row : ℕ) → Step
  Chain : List ℕ → Step
  Congruence : (left right : ℕ) → Step
  Farkas : List Literal → List Fraction → Step
  Split : ℕ → ℤ → Step
  Trichotomy : (left right : ℕ) → Step
  Divide : (dividend divisor row : ℕ) → Step
  Propagate : List Literal → (hints : List ℕ) → Step

abbrev pub step : Step' → Step
step (steps'.Input n) = Input n
step (steps'.Term ts) = NewTerm ts.items
step (steps'.Define t k) = Define t k
step (steps'.Pick t k) = Pick t k
step (steps'.Chain ns) = Chain ns.items
step (steps'.Congruence s t) = Congruence s t
step (steps'.Farkas ls ms) = Farkas ls.items (map fraction ms.items)
step (steps'.Split t n) = Split t n
step (steps'.Trichotomy s t) = Trichotomy s t
step (steps'.Divide m n k) = Divide m n k
step (steps'.Propagate ls hs) = Propagate ls.items hs.items

abbrev pub certificate : Certificate' → List Step
certificate c = map step c.steps.items

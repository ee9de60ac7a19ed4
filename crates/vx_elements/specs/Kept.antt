-- What an interpretation keeps when further symbols get values.
use Rattle.std.specs.Prelude.{◌≡◌, ℕ, ℤ, List}
use Rattle.vx_terms.specs.Sorts.{Sort, Symbol}
use Rattle.vx_terms.specs.Terms.{Term}
use Rattle.vx_terms.specs.Build.{variable}
use Rattle.vx_terms.specs.Interpretations.{Element, IsOf, Interpretation, value}
use Rattle.vx_terms.specs.Formed.{IsKnown, Formed}

-- j is as i but for the symbols from the number n on
pub record AgreesBelow (n : ℕ) (i j : Interpretation) : Type 0 where
  pub functions : (f : Symbol) (a : Sort) (es : List Element) → IsKnown n f → j.functions f a es ≡ i.functions f a es
  pub quotients : (z : ℤ) → j.quotients z ≡ i.quotients z
  pub remainders : (z : ℤ) → j.remainders z ≡ i.remainders z

-- a term over symbols below n keeps its value
abbrev pub KnownIsKept : Type 0
KnownIsKept = (n : ℕ) (i j : Interpretation) (t : Term) (a : Sort) → AgreesBelow n i j → Formed n t a → value j t ≡ value i t

-- the symbol of the number n can have any value of its sort, and those below it keep theirs
abbrev pub FreshIsFree : Type 0
FreshIsFree = (n : ℕ) (i : Interpretation) (a : Sort) (e : Element) → IsOf a e → (j : Interpretation) × AgreesBelow n i j × (value j (variable n a) ≡ e)

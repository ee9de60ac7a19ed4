-- The worked certificate of `v2 = v0 + 1` and not `v0 < v2`.
use Rattle.std.specs.Prelude.{ℕ, pos, negsuc, List, [], ◌∷◌}
use Rattle.vx_frac.specs.Fractions.{whole}
use Rattle.vx_terms.specs.Sorts.{IntSort, Variable, Less, Add}
use Rattle.vx_terms.specs.Terms.{Term, Number, Constant, Not, Binary}
use Rattle.cs_certificate.specs.Terms.{equal}
use Rattle.cs_certificate.specs.Certificate.{Stack, Step, Input, Define, Farkas, Propagate, plain, denial, IsFinished}

abbrev pub variable : ℕ → Term
variable n = Constant (Variable n) IntSort

abbrev pub stack : Stack
stack = record {
  assertions = equal (variable 2) (Binary Add (variable 0) (Number (pos 1))) ∷ Not (Binary Less (variable 0) (variable 2)) ∷ [];
  symbols = record { symbol = Variable 0; takes = []; gives = IntSort } ∷ record { symbol = Variable 2; takes = []; gives = IntSort } ∷ [];
}

abbrev pub steps : List Step
steps =
    Input 0 ∷ Input 1 ∷ Define 5 0
    ∷ Farkas (denial 0 ∷ plain 6 ∷ []) (whole (negsuc 0) ∷ whole (pos 1) ∷ [])
    ∷ Propagate [] (0 ∷ 1 ∷ 2 ∷ 3 ∷ []) ∷ []

abbrev pub Worked : Type 0
Worked = IsFinished stack steps

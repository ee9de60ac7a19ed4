-- What is derived by hints is refuted along them, as the checker follows them.
use Rattle.std.specs.Prelude.{◌≡◌, ℕ, true, List, map}
use Rattle.cs_certificate.specs.declared.literal.Literal.{Literal}
use Rattle.cs_certificate.specs.declared.literal.Clause.{Clause}
use Rattle.cs_certificate.specs.Hints.{refutes}
use Rattle.cs_search.specs.Assignment.{negated}
use Rattle.cs_search.specs.Propagation.{IsDerived}

abbrev pub DerivedRefutes : Type 0
DerivedRefutes = (clauses : List Clause) (literals : List Literal) (hints : List ℕ) → IsDerived clauses literals hints → refutes clauses (map negated literals) hints ≡ true

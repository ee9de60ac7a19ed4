-- Reverse unit propagation: hints that lead from what is assumed to a clause that leaves nothing.
use Rattle.std.specs.Prelude.{◌≡◌, ℕ, ◌⊎◌, List, [], ◌∷◌, ◌++◌, Some, map, slice_get}
use Rattle.std.specs.List.{All, Contains}
use Rattle.cs_certificate.specs.declared.literal.Literal.{Literal}
use Rattle.cs_certificate.specs.declared.literal.Clause.{Clause}
use Rattle.cs_search.specs.Assignment.{negated}

abbrev pub Denied : List Literal → Literal → Type 0
Denied assumed l = Contains assumed (negated l)

pub data Refutes (clauses : List Clause) : List Literal → List ℕ → Type 0 where
  ends : {assumed : List Literal} {h : ℕ} {hs : List ℕ} (c : Clause) → slice_get clauses h ≡ Some c → All (Denied assumed) c.literals.items → Refutes clauses assumed (h ∷ hs)
  forces : {assumed : List Literal} {h : ℕ} {hs : List ℕ} (c : Clause) (l : Literal) → slice_get clauses h ≡ Some c → Contains c.literals.items l → ¬ (Denied assumed l) → All (λ m. (m ≡ l) ⊎ Denied assumed m) c.literals.items → Refutes clauses (assumed ++ l ∷ []) hs → Refutes clauses assumed (h ∷ hs)

-- the clause is derived by the hints
abbrev pub IsDerived : List Clause → List Literal → List ℕ → Type 0
IsDerived clauses literals hints = Refutes clauses (map negated literals) hints

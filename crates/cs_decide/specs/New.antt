-- Clauses of cases that weren't there.
use Rattle.std.specs.Prelude.{◌≡◌, ℕ, List, [], ◌∷◌, ◌++◌, All}
use Rattle.cs_certificate.specs.declared.literal.Literal.{Literal}
use Rattle.cs_certificate.specs.declared.literal.Clause.{Clause}
use Rattle.cs_search.specs.declared.Value.{Value}
use Rattle.cs_search.specs.declared.Status.TheVariants.{True}
use Rattle.cs_search.specs.Assignment.{status_of}
use Rattle.cs_search.specs.Search.{IsUncovered}

-- the literal isn't true
abbrev pub IsUntrue : List Value → Literal → Type 0
IsUntrue values l = (place : ℕ) → ¬ (status_of values l ≡ True place)

-- none of the literals is true
abbrev pub AreUntrue : List Value → List Literal → Type 0
AreUntrue values ls = All (IsUntrue values) ls

-- a clause is added that contains none of those before it
abbrev pub HasNewClause : List Clause → List Clause → Type 0
HasNewClause old new = (c : Clause) × (new ≡ old ++ c ∷ []) × IsUncovered old c.literals.items

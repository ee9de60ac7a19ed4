-- Which literals of a clause are to be watched.
use Rattle.std.specs.Prelude.{◌≡◌, ℕ, ◌+◌, ◌⊎◌, List, Option, Some, None, slice_get}
use Rattle.std.specs.List.{All, Contains}
use Rattle.cs_certificate.specs.declared.literal.Literal.{Literal}
use Rattle.cs_certificate.specs.declared.literal.Clause.{Clause}
use Rattle.cs_search.specs.declared.Value.{Value}
use Rattle.cs_search.specs.declared.Status.TheVariants.{False}
use Rattle.cs_search.specs.declared.choose.Choice.{Choice}
use Rattle.cs_search.specs.declared.choose.Choice.TheVariants.{Nothing, Alone, Forced, Free}
use Rattle.cs_search.specs.Assignment.{status_of, LeavesOnly, BecameFalse, NotFalse}
use Rattle.cs_search.specs.Watched.{IsPair}

-- a literal that is not false
abbrev pub IsFree : List Value → List Literal → Option Literal → Type 0
IsFree values c None = All (BecameFalse values) c
IsFree values c (Some m) = Contains c m × NotFalse values m

-- a literal that is not false, other than l
abbrev pub IsSpare : List Value → List Literal → Literal → Option Literal → Type 0
IsSpare values c l None = All (λ m. (m ≡ l) ⊎ BecameFalse values m) c
IsSpare values c l (Some m) = Contains c m × ¬ (m ≡ l) × NotFalse values m

-- of those other than l the one that became false last
abbrev pub IsLastFalse : List Value → List Literal → Literal → Option Literal → Type 0
IsLastFalse values c l None = All (λ m. m ≡ l) c
IsLastFalse values c l (Some m) = Contains c m × ¬ (m ≡ l) × ((p : ℕ) × (status_of values m ≡ False p) × LeavesOnly values (p + 1) c l)

-- all literals are false; there is no other; all others are false, the second one last; or neither is false
abbrev pub IsChosen : List Value → List Literal → Choice → Type 0
IsChosen values c Nothing = All (BecameFalse values) c
IsChosen values c (Alone l) = Contains c l × NotFalse values l × All (λ m. m ≡ l) c
IsChosen values c (Forced w) = IsPair c w × NotFalse values w.first × ((p : ℕ) × (status_of values w.second ≡ False p) × LeavesOnly values (p + 1) c w.first)
IsChosen values c (Free w) = IsPair c w × NotFalse values w.first × NotFalse values w.second

-- the clause of this number leaves the literal
abbrev pub IsLeft : List Clause → List Value → ℕ → ℕ → Literal → Type 0
IsLeft clauses values n i l = (c : Clause) × (slice_get clauses i ≡ Some c) × Contains c.literals.items l × LeavesOnly values n c.literals.items l

abbrev pub IsChosenAt : List Clause → ℕ → List Value → Choice → Type 0
IsChosenAt clauses i values choice = (c : Clause) × (slice_get clauses i ≡ Some c) × IsChosen values c.literals.items choice

-- A derivation that has the clauses of a search.
use Rattle.std.specs.Prelude.{◌≡◌, ℕ, ◌<◌, List, map, length, reverse}
use Rattle.std.specs.List.{All}
use Rattle.vx_terms.specs.Sorts.{BoolSort}
use Rattle.vx_terms.specs.Terms.{Term}
use Rattle.cs_certificate.specs.Terms.{HasSort}
use Rattle.cs_certificate.specs.Certificate.{Stack, At}
use Rattle.cs_certificate.specs.declared.literal.Literal.{Literal}
use Rattle.cs_certificate.specs.declared.literal.Clause.{Clause}
use Rattle.cs_certificate.specs.Bridge.{views}
use Rattle.cs_derivation.specs.Reached.{Reached, Stands, state_of}
use Rattle.cs_search.specs.Extended.{AreKnown}
use Rattle.cs_search.specs.Propagation.{IsDerived}
use Rattle.cs_ground.specs.Atoms.{terms_of}

-- the derivation's clauses are these clauses of atoms, each of which is a Bool term of its own
pub record Follows (stack : Stack) (atoms : List ℕ) (clauses : List (List Literal)) (r : Reached) : Type 0 where
  pub stands : Stands stack r
  pub bools : (a n : ℕ) → At atoms a n → (t : Term) × At r.terms n t × HasSort t BoolSort
  pub distinct : (a b n : ℕ) → At atoms a n → At atoms b n → a ≡ b
  pub same : (state_of r).clauses ≡ map (views (terms_of r.terms atoms)) clauses

-- the hints, from last to first, derive the literals of atoms from clauses of atoms
pub record IsLearned (atoms : List ℕ) (clauses : List Clause) (literals : List Literal) (hints : List ℕ) : Type 0 where
  pub known : AreKnown clauses (length atoms)
  pub within : All (λ l. l.number < length atoms) literals
  pub derived : IsDerived clauses literals (reverse hints)

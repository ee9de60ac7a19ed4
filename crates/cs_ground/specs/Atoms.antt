-- The atoms of a search: the Bool terms among the numbered ones, one after another.
use Rattle.std.specs.Prelude.{◌≡◌, ℕ, List, map, slice_index, Ok, Err}
use Rattle.std.specs.declared.result.Result.{Result}
use Rattle.std.specs.List.{All}
use Rattle.vx_terms.specs.Sorts.{BoolSort}
use Rattle.vx_terms.specs.Terms.{Term}
use Rattle.cs_certificate.specs.Certificate.{At}
use Rattle.cs_certificate.specs.Nodes.{Node}
use Rattle.cs_table.specs.declared.steps.Stop.{Stop}
use Rattle.cs_table.specs.declared.steps.Stop.TheVariants.{Want}
use Rattle.cs_certificate.specs.declared.literal.Literal.{Literal}
use Rattle.cs_certificate.specs.declared.literal.Clause.{Clause}
use Rattle.cs_certificate.specs.Bridge.{term_at}

-- the term of this number is Bool
abbrev pub IsBool : List Node → ℕ → Type 0
IsBool nodes n = (x : Node) × At nodes n x × (x.sort ≡ BoolSort)

abbrev pub AreBool : List Node → List Literal → Type 0
AreBool nodes ls = All (λ l. IsBool nodes l.number) ls

-- by atom the number of its term, and by number of a Bool term its atom
pub record AreAtoms (nodes : List Node) (terms places : List ℕ) : Type 0 where
  pub placed : (n : ℕ) → IsBool nodes n → (a : ℕ) × At places n a × At terms a n
  pub named : (a n : ℕ) → At terms a n → IsBool nodes n × At places n a

-- the literal of the term that an atom stands for
abbrev pub named : List ℕ → Literal → Literal
named terms l = record { positive = l.positive; number = slice_index terms l.number }

abbrev pub all_named : List ℕ → List Literal → List Literal
all_named terms ls = map (named terms) ls

-- the literals of clauses
abbrev pub literals : List Clause → List (List Literal)
literals cs = map (λ c. c.literals.items) cs

-- the terms that atoms stand for, by atom
abbrev pub terms_of : List Term → List ℕ → List Term
terms_of all terms = map (term_at all) terms

-- nothing but memory was missed
abbrev pub MissesNothing : {X : Type 0} → Result X Stop → Type 0
MissesNothing (Ok x) = Unit {0}
MissesNothing (Err e) = e ≡ Want
